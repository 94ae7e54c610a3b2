-- The cheapest point of a plane under limits: rivals, sizes, value.
use Rattle.std.specs.Prelude.{Bool, not, ◌&&◌, List, [], ◌∷◌, ℤ, pos, ◌*ℤ◌, neg_ℤ, ◌≤ℤ◌, ◌==◌, unsigned_abs}
use Rattle.rows.specs.Range.{within}
use Rattle.lptype.specs.Meaning.{Meaning}
use Rattle.algebra.specs.Point.{Point}
use Rattle.limits.specs.Forms.{Form, no_more, Alike}
use Rattle.limits.specs.Crossings.{Keeps}
use Rattle.limits.specs.Least.{least_crossing}

-- z is 0
abbrev pub is_zero : ℤ → Bool
is_zero z = unsigned_abs z == 0

-- a row is the limit a·x + b·y ≤ c; a and b are not both 0
abbrev pub admits_limit : ℤ → ℤ → ℤ → Bool
admits_limit a b c = within 1000 a && within 1000 b && within 1000000 c && not (is_zero a && is_zero b)

-- a point whose coordinates are within ±1,000,000
pub record Rival : Type 0 where
  pub point : Point
  pub west : neg_ℤ (pos 1000000 *ℤ point.D) ≤ℤ point.X
  pub east : point.X ≤ℤ (pos 1000000 *ℤ point.D)
  pub south : neg_ℤ (pos 1000000 *ℤ point.D) ≤ℤ point.Y
  pub north : point.Y ≤ℤ (pos 1000000 *ℤ point.D)

-- the problem of the forms: points are compared by the forms in turn
abbrev pub plane_by : List Form → Meaning
plane_by fs = record {
  Rival = Rival;
  Size = Point;
  admitted = admits_limit;
  keeps = λ r x. Keeps r.point x;
  size = λ r. r.point;
  le = no_more fs;
  same = Alike fs;
  value = least_crossing fs;
  dimension = 3;
}

-- the cost p·x + q·y, then x, then y
abbrev pub cost_x_y : ℤ → ℤ → List Form
cost_x_y p q = record { u = p; v = q } ∷ record { u = pos 1; v = pos 0 } ∷ record { u = pos 0; v = pos 1 } ∷ []

-- the cheapest point, where a point costs p·x + q·y
abbrev pub plane : ℤ → ℤ → Meaning
plane p q = plane_by (cost_x_y p q)
