-- What the search for a basis looks for among the sublists of a pool of positions.
use Rattle.std.specs.Prelude.{◌≡◌, ℕ, ◌^◌, ◌<◌, List, ◌∷◌, length, ℤ, Option, Result, MatchOption}
use Rattle.std.specs.List.{AllByRecursion}
use Rattle.rows.specs.Judged.{Gives, Unless}
use Rattle.rows.specs.List.{positions}
use Rattle.rows.specs.Pool.{chosen, Listable}
use Rattle.rows.specs.Row.{at, picked}
use Rattle.rows.specs.declared.positions.Positions.{Positions}
use Rattle.rows.specs.declared.row.Row.{Row}
use Rattle.rows.specs.declared.refusal.Refusal.{Refusal}
use Rattle.rows.specs.declared.refusal.Refusal.TheVariants.{NotStanding}
use Rattle.lptype.specs.Meaning.{Meaning, Quiet, Stands}
use Rattle.lptype.specs.Places.{AllFine}
use Rattle.lptype.specs.Questions.{Judged, Exchanged}

-- ps stands
abbrev pub StandsAt : Meaning → List Row → List ℤ → Type 0
StandsAt m rows ps = AllFine m rows ps × Stands m (picked rows ps)

-- ps stands, and the row at p does not raise it
pub record QuietAt (m : Meaning) (rows : List Row) (ps : List ℤ) (p : ℤ) : Type 0 where
  pub fine : AllFine m rows (p ∷ ps)
  pub stands : Stands m (picked rows ps)
  pub quiet : Quiet m (picked rows ps) (at rows p)

-- ps stands, and no row of the pool raises it
abbrev pub Qualifies : Meaning → List Row → List ℤ → List ℤ → Type 0
Qualifies m rows ps pool = StandsAt m rows ps × AllByRecursion (QuietAt m rows ps) pool

-- the mask chooses a list of positions that qualifies
pub record Serves (m : Meaning) (rows : List Row) (pool : List ℤ) (mask : ℕ) : Type 0 where
  pub listable : Listable (chosen pool mask)
  pub qualifies : Qualifies m rows (chosen pool mask) pool

-- the list that the mask chooses, if it serves
abbrev pub IfServing : Meaning → List Row → List ℤ → ℕ → Option Positions → Type 0
IfServing m rows pool mask r = MatchOption r (Serves m rows pool mask → ⊥) (λ p. Serves m rows pool mask × (positions p ≡ chosen pool mask))

-- the list that the first mask chooses that serves, and none where no mask does
abbrev pub FirstServing : Meaning → List Row → List ℤ → Option Positions → Type 0
FirstServing m rows pool r = MatchOption r
    ((k : ℕ) → k < 2 ^ length pool → Serves m rows pool k → ⊥)
    (λ p. (k : ℕ) × Serves m rows pool k × (positions p ≡ chosen pool k) × ((j : ℕ) → j < k → Serves m rows pool j → ⊥))

-- what exchange makes of ps and h
abbrev pub BasisAnswer : Meaning → List Row → List ℤ → ℤ → Result Positions Refusal → Type 0
BasisAnswer m rows ps h =
    Judged m rows (h ∷ ps) (Unless NotStanding (Stands m (picked rows ps)) (Gives (λ p. Exchanged m rows ps h (positions p))))
