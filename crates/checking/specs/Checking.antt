-- What check answers, and when it passes a list.
use Rattle.std.specs.Prelude.{◌≡◌, ℕ, ◌<◌, List, [], ◌∷◌, length, ℤ, Ok, Err, Result, slice_index_or, unsigned_abs}
use Rattle.std.specs.List.{AllByRecursion}
use Rattle.arrayvec.specs.ArrayVec.{ArrayVec}
use Rattle.rows.specs.Row.{HasRow, Named, AllOpen, row_at, at, picked, no_row}
use Rattle.rows.specs.Judged.{Gives, Unless}
use Rattle.rows.specs.declared.row.Constraint.{Constraint}
use Rattle.rows.specs.declared.row.Row.{Row}
use Rattle.rows.specs.declared.row.Mark.{Mark}
use Rattle.rows.specs.declared.row.Mark.TheVariants.{Open, Struck}
use Rattle.rows.specs.declared.refusal.Refusal.{Refusal}
use Rattle.rows.specs.declared.refusal.Refusal.TheVariants.{NoRow, StruckRow, NotStanding, Violated}
use Rattle.lptype.specs.Meaning.{Meaning, Raises, Quiet, Stands, SameValue}

-- position p has an open row
abbrev pub OpenAt : List Row → ℤ → Type 0
OpenAt rows p = HasRow rows p × ((row_at rows p).mark ≡ Open)

-- every position has an open row
abbrev pub EachOpen : List Row → List ℤ → Type 0
EachOpen rows ps = AllByRecursion (OpenAt rows) ps

-- the rows at the positions, unless one has no row or a struck one
abbrev pub PickedOpen : List Row → List ℤ → Result (ArrayVec Constraint) Refusal → Type 0
PickedOpen rows ps = Unless NoRow (Named rows ps) (Unless StruckRow (AllOpen rows ps) (Gives (λ v. v.items ≡ picked rows ps)))

-- no open row before place n raises the value of F
abbrev pub QuietBefore : Meaning → List Row → List Constraint → ℕ → Type 0
QuietBefore m rows F n = (k : ℕ) → k < n → (slice_index_or rows k no_row).mark ≡ Open → Quiet m F (slice_index_or rows k no_row).constraint

-- position p has the first open row that raises the value of F
pub record FirstViolating (m : Meaning) (rows : List Row) (F : List Constraint) (p : ℤ) : Type 0 where
  pub there : HasRow rows p
  pub open_there : (row_at rows p).mark ≡ Open
  pub raises : Raises m F (at rows p)
  pub first : QuietBefore m rows F (unsigned_abs p)

-- the rows by rising position: none violates, or the first that does is named
abbrev pub Searched : Meaning → List Row → List Constraint → Result (Unit {0}) Refusal → Type 0
Searched m rows F (Ok u) = QuietBefore m rows F (length rows)
Searched m rows F (Err e) = (p : ℤ) × (e ≡ Violated p) × FirstViolating m rows F p

abbrev pub CheckAnswer : Meaning → List Row → List ℤ → Result (Unit {0}) Refusal → Type 0
CheckAnswer m rows ps =
    Unless NoRow (Named rows ps) (Unless StruckRow (AllOpen rows ps) (Unless NotStanding (Stands m (picked rows ps)) (Searched m rows (picked rows ps))))

-- the constraints of the open rows
abbrev pub kept_if : Mark → Constraint → List Constraint → List Constraint
kept_if Open x F = x ∷ F
kept_if Struck x F = F

abbrev pub open_rows : List Row → List Constraint
open_rows [] = []
open_rows (row ∷ rows) = kept_if row.mark row.constraint (open_rows rows)

-- the list is a basis of the open rows: it names open rows only, they have the value of all open rows,
-- and leaving out any one of them lowers the value
pub record BasisOfOpen (m : Meaning) (rows : List Row) (ps : List ℤ) : Type 0 where
  pub named : Named rows ps
  pub all_open : AllOpen rows ps
  pub value : SameValue m (picked rows ps) (open_rows rows)
  pub stands : Stands m (picked rows ps)
