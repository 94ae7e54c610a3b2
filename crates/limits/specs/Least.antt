-- The least point that keeps all limits: the least of their crossings that does.
use Rattle.std.specs.Prelude.{cond, List, [], ◌∷◌, ℤ, pos, negsuc}
use Rattle.rows.specs.declared.row.Constraint.{Constraint}
use Rattle.lptype.specs.Meaning.{Value, finite, top}
use Rattle.algebra.specs.Point.{Point}
use Rattle.limits.specs.Forms.{Form, no_more}
use Rattle.limits.specs.Crossings.{all_kept, crossings}

-- a side of the square of ±1,000,000 as a limit
abbrev pub side : ℤ → ℤ → Constraint
side a b = record { a = a; b = b; c = pos 1000000; parish = 1 }

-- the sides of the square, and then the rows
abbrev pub limits : List Constraint → List Constraint
limits F = side (pos 1) (pos 0) ∷ side (negsuc 0) (pos 0) ∷ side (pos 0) (pos 1) ∷ side (pos 0) (negsuc 0) ∷ F

-- the smaller of a point and what was found before
abbrev pub better : List Form → Point → Value Point → Value Point
better fs z top = finite z
better fs z (finite w) = cond (no_more fs z w) (finite z) (finite w)

-- what is found with one more point: only a point that keeps G counts
abbrev pub improved : List Form → List Constraint → Value Point → Point → Value Point
improved fs G v z = cond (all_kept z G) (better fs z v) v

-- the least of v and the points that keep G
unfoldable pub best : List Form → List Constraint → Value Point → List Point → Value Point
best fs G v [] = v
best fs G v (z ∷ Z) = best fs G (improved fs G v z) Z

-- the least crossing of two limits that keeps them all
abbrev pub least_crossing : List Form → List Constraint → Value Point
least_crossing fs F = best fs (limits F) top (crossings (limits F))
