-- What a problem answers about rows, a list of positions and perhaps one more position.
use Rattle.std.specs.Prelude.{◌≡◌, Bool, List, ◌∷◌, ℤ, Some, None, Decides, Option, Result, OnErr}
use Rattle.rows.specs.Judged.{Gives, Unless}
use Rattle.rows.specs.Pool.{Listable}
use Rattle.rows.specs.Row.{Named, at, picked}
use Rattle.rows.specs.declared.row.Row.{Row}
use Rattle.rows.specs.declared.row.Constraint.{Constraint}
use Rattle.rows.specs.declared.refusal.Refusal.{Refusal}
use Rattle.rows.specs.declared.refusal.Refusal.TheVariants.{NoRow, NotAdmitted, NotStanding}
use Rattle.lptype.specs.Meaning.{Meaning, finite, top, Equal, Within, Admitted, Raises, Quiet, KeepsAll, SameValue, Stands}

-- every position named has a row, then every row named is admitted, then K
abbrev pub Judged : {T : Type 0} → Meaning → List Row → List ℤ → (Result T Refusal → Type 0) → Result T Refusal → Type 0
Judged m rows ps K = Unless NoRow (Named rows ps) (Unless NotAdmitted (Admitted m (picked rows ps)) K)

abbrev pub SoundAnswer : Meaning → List Row → List ℤ → Result (Unit {0}) Refusal → Type 0
SoundAnswer m rows ps = Judged m rows ps (Gives (λ _. Unit {0}))

abbrev pub StandsAnswer : Meaning → List Row → List ℤ → Result Bool Refusal → Type 0
StandsAnswer m rows ps = Judged m rows ps (Gives (λ b. Decides b (Stands m (picked rows ps))))

abbrev pub ViolatesAnswer : Meaning → List Row → List ℤ → ℤ → Result Bool Refusal → Type 0
ViolatesAnswer m rows ps h =
    Judged m rows (h ∷ ps) (Unless NotStanding (Stands m (picked rows ps)) (Gives (λ b. Decides b (Raises m (picked rows ps) (at rows h)))))

-- what exchange may make of the list ps: a list that is a basis of ps with h, and ps itself where h does not violate it
pub record Exchanged (m : Meaning) (rows : List Row) (ps : List ℤ) (h : ℤ) (after : List ℤ) : Type 0 where
  pub list : Listable after
  pub from : Within after (h ∷ ps)
  pub stands : Stands m (picked rows after)
  pub same : SameValue m (picked rows after) (picked rows (h ∷ ps))
  pub stays : Quiet m (picked rows ps) (at rows h) → after ≡ ps

-- a refused exchange leaves the list as it was
abbrev pub ExchangeAnswer : Meaning → List Row → List ℤ → ℤ → List ℤ → Result (Unit {0}) Refusal → Type 0
ExchangeAnswer m rows ps h after r =
    Judged m rows (h ∷ ps) (Unless NotStanding (Stands m (picked rows ps)) (Gives (λ _. Exchanged m rows ps h after))) r
    × OnErr r (after ≡ ps)

-- none at top, and otherwise a rival that keeps all of F and has its value as size
abbrev pub Best : (m : Meaning) → List Constraint → Option m.Rival → Type 0
Best m F None = m.value F ≡ top
Best m F (Some r) = KeepsAll m r F × Equal m.same (finite (m.size r)) (m.value F)

-- the answer stands for a best rival for F, or for none; reads says which rivals, or none, an answer may stand for
abbrev pub ReadsBest : (m : Meaning) {A : Type 0} → (A → Option m.Rival → Type 0) → List Constraint → A → Type 0
ReadsBest m reads F a = (o : Option m.Rival) × reads a o × Best m F o

abbrev pub AnswerAnswer : (m : Meaning) {A : Type 0} → (A → Option m.Rival → Type 0) → List Row → List ℤ → Result A Refusal → Type 0
AnswerAnswer m reads rows ps =
    Judged m rows ps (Unless NotStanding (Stands m (picked rows ps)) (Gives (ReadsBest m reads (picked rows ps))))
