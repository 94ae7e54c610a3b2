-- The answer of the box: what it stands for, the smallest box around rows, and which points lie outside.
use Rattle.std.specs.Prelude.{◌≡◌, ℕ, ◌+◌, ◌<◌, Bool, true, ◌||◌, List, [], ◌∷◌, ◌++◌, length, take, drop, ℤ, Some, None, Option, int_lt, slice_index_or}
use Rattle.std.specs.Int.{int_max, int_min}
use Rattle.std.specs.List.{fold}
use Rattle.rows.specs.Row.{no_row}
use Rattle.rows.specs.declared.row.Constraint.{Constraint}
use Rattle.algebra.specs.Fraction.{whole, frac_same}
use Rattle.bounds.specs.Bounds.{BoxRival, empty_box, box, greatest, least, easting, northing}
use Rattle.bounds.specs.declared.answer.BoundsAnswer.{BoundsAnswer}
use Rattle.bounds.specs.declared.answer.BoundsAnswer.TheVariants.{Empty, Sides}

-- an answer stands for the empty box, or for a box with these four sides, and never for none
abbrev pub Reads : BoundsAnswer → Option BoxRival → Type 0
Reads Empty None = ⊥
Reads Empty (Some empty_box) = Unit {0}
Reads Empty (Some (box k)) = ⊥
Reads (Sides w e s n) None = ⊥
Reads (Sides w e s n) (Some empty_box) = ⊥
Reads (Sides w e s n) (Some (box k)) = frac_same k.west (whole w) × frac_same k.east (whole e) × frac_same k.south (whole s) × frac_same k.north (whole n)

-- the smallest box around the rows
abbrev pub box_around : List Constraint → BoundsAnswer
box_around [] = Empty
box_around (x ∷ F) = Sides (least easting x F) (greatest easting x F) (least northing x F) (greatest northing x F)

-- the box, made just large enough for one more point
abbrev pub with_point : BoundsAnswer → Constraint → BoundsAnswer
with_point Empty x = Sides x.a x.a x.b x.b
with_point (Sides w e s n) x = Sides (int_min w x.a) (int_max e x.a) (int_min s x.b) (int_max n x.b)

-- the box, made just large enough for more points
abbrev pub with_points : BoundsAnswer → List Constraint → BoundsAnswer
with_points k F = fold with_point k F

-- n is below the first or above the second
abbrev pub outside : ℤ → ℤ → ℤ → Bool
outside low high n = int_lt n low || int_lt high n

-- the point lies beyond a side; the empty box misses every point
abbrev pub misses : BoundsAnswer → Constraint → Bool
misses Empty x = true
misses (Sides w e s n) x = outside w e x.a || outside s n x.b

-- the list without what stands at place i
abbrev pub others : List Constraint → ℕ → List Constraint
others F i = take i F ++ drop (i + 1) F

-- the row at place i lies outside the smallest box around the others
abbrev pub needed_at : List Constraint → ℕ → Bool
needed_at F i = misses (box_around (others F i)) (slice_index_or F i no_row.constraint)

-- so does each row of the list
abbrev pub AllNeeded : List Constraint → Type 0
AllNeeded F = (i : ℕ) → i < length F → needed_at F i ≡ true
