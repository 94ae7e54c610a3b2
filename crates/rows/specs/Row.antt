-- Rows by position.
use Rattle.std.specs.Prelude.{◌≡◌, ℕ, ◌<◌, ◌≤◌, List, map, length, ℤ, pos, ◌≤ℤ◌, slice_index_or, unsigned_abs}
use Rattle.std.specs.List.{AllByRecursion}
use Rattle.rows.specs.declared.row.Constraint.{Constraint}
use Rattle.rows.specs.declared.row.Row.{Row}
use Rattle.rows.specs.declared.row.Mark.TheVariants.{Open}

-- parishes are numbered from 1 to 16
abbrev pub IsParish : ℕ → Type 0
IsParish g = (1 ≤ g) × (g ≤ 16)

abbrev pub open_row : Constraint → Row
open_row x = record { constraint = x; mark = Open }

-- what a list of rows is read as past its end
abbrev pub no_row : Row
no_row = open_row (record { a = pos 0; b = pos 0; c = pos 0; parish = 0 })

abbrev pub row_at : List Row → ℤ → Row
row_at rows p = slice_index_or rows (unsigned_abs p) no_row

-- there is a row at position p
abbrev pub HasRow : List Row → ℤ → Type 0
HasRow rows p = (pos 0 ≤ℤ p) × (unsigned_abs p < length rows)

-- every position has a row
abbrev pub Named : List Row → List ℤ → Type 0
Named rows ps = AllByRecursion (HasRow rows) ps

-- every position has an open row
abbrev pub AllOpen : List Row → List ℤ → Type 0
AllOpen rows ps = AllByRecursion (λ p. (row_at rows p).mark ≡ Open) ps

-- the constraint at a position, and those at several
abbrev pub at : List Row → ℤ → Constraint
at rows p = (row_at rows p).constraint

abbrev pub picked : List Row → List ℤ → List Constraint
picked rows ps = map (at rows) ps
