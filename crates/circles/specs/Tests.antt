-- The tests by which code decides: whole numbers, compared with 0.
use Rattle.std.specs.Prelude.{Bool, cond, ◌&&◌, pos, int_lt}
use Rattle.rows.specs.declared.row.Constraint.{Constraint}
use Rattle.circles.specs.Angles.{apart, corner, turn, power}

-- the points p and q are apart
abbrev pub differ : Constraint → Constraint → Bool
differ p q = int_lt (pos 0) (apart p q)

-- the dot product at the corner p is above 0
abbrev pub acute_at : Constraint → Constraint → Constraint → Bool
acute_at p q r = int_lt (pos 0) (corner p q r)

-- so is each of the three
abbrev pub acute : Constraint → Constraint → Constraint → Bool
acute p q r = acute_at p q r && acute_at q r p && acute_at r p q

-- h lies outside the circle on p and q
abbrev pub outside_pair : Constraint → Constraint → Constraint → Bool
outside_pair p q h = acute_at h p q

-- h lies outside the circle through p, q and r: the power has the sign that their turn does not have
abbrev pub outside_circle : Constraint → Constraint → Constraint → Constraint → Bool
outside_circle p q r h = cond (int_lt (turn p q r) (pos 0)) (int_lt (pos 0) (power p q r h)) (int_lt (power p q r h) (pos 0))
