-- What it is for a position to have an admitted row.
use Rattle.std.specs.Prelude.{◌≡◌, true, List, ℤ}
use Rattle.rows.specs.Row.{HasRow, Named, at, picked}
use Rattle.rows.specs.declared.row.Constraint.{Constraint}
use Rattle.rows.specs.declared.row.Row.{Row}
use Rattle.lptype.specs.Meaning.{Meaning, Admitted}

-- constraint x is admitted
abbrev pub Fine : Meaning → Constraint → Type 0
Fine m x = m.admitted x.a x.b x.c ≡ true

-- position p has a row, and it is admitted
pub record FineAt (m : Meaning) (rows : List Row) (p : ℤ) : Type 0 where
  pub present : HasRow rows p
  pub fine : Fine m (at rows p)

-- each position has a row, and each row is admitted
abbrev pub AllFine : Meaning → List Row → List ℤ → Type 0
AllFine m rows ps = Named rows ps × Admitted m (picked rows ps)
