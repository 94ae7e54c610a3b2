-- The smallest disc that holds the points of the rows: rivals, sizes, value.
use Rattle.std.specs.Prelude.{zero, suc, true, false, List, [], ◌∷◌, ℤ, pos, negsuc, ◌-ℤ◌, ◌*ℤ◌, ◌≤ℤ◌, ◌<ℤ◌, int_lt}
use Rattle.rows.specs.declared.row.Constraint.{Constraint}
use Rattle.lptype.specs.Meaning.{Meaning, finite}
use Rattle.algebra.specs.Fraction.{Fraction, whole, frac_le, frac_same}
use Rattle.points.specs.Point.{admits_point}
use Rattle.circles.specs.Angles.{squares, apart, corner, turn}

-- a circle: its centre (X/D, Y/D), and Q over D², the squared radius
pub record Circle : Type 0 where
  pub X : ℤ
  pub Y : ℤ
  pub Q : ℤ
  pub D : ℤ
  pub positive : pos 0 <ℤ D
  pub nonneg : pos 0 ≤ℤ Q

pub data DiscRival : Type 0 where
  empty_disc : DiscRival
  disc : Circle → DiscRival

-- the squared distance of a point from (X/D, Y/D), times D²
abbrev pub from_centre : ℤ → ℤ → ℤ → Constraint → ℤ
from_centre X Y D p = squares (D *ℤ p.a -ℤ X) (D *ℤ p.b -ℤ Y)

-- a disc keeps the points inside or on its circle; the empty disc keeps none
abbrev pub KeepsPoint : DiscRival → Constraint → Type 0
KeepsPoint empty_disc p = ⊥
KeepsPoint (disc c) p = from_centre c.X c.Y c.D p ≤ℤ c.Q

-- n over d, for d above 0
abbrev pub over : ℤ → ℤ → Fraction
over n (pos zero) = whole n
over n (pos (suc k)) = record { numerator = n; under = k }
over n (negsuc k) = whole n

abbrev pub minus_one : Fraction
minus_one = whole (negsuc 0)

-- the squared radius; −1 for the empty disc
abbrev pub disc_size : DiscRival → Fraction
disc_size empty_disc = minus_one
disc_size (disc c) = over c.Q (c.D *ℤ c.D)

-- the squared radius of the circle on p and q
abbrev pub pair_size : Constraint → Constraint → Fraction
pair_size p q = over (apart p q) (pos 4)

-- the squared radius of the circle through p, q and r: the product of the squared sides over 4 ((q − p) × (r − p))²
abbrev pub circle_size : Constraint → Constraint → Constraint → Fraction
circle_size p q r = over (apart q r *ℤ apart r p *ℤ apart p q) (pos 4 *ℤ (turn p q r *ℤ turn p q r))

-- the same of the smallest circle that holds p, q and r: where a corner is not acute, the circle on the other two
abbrev pub three_size : Constraint → Constraint → Constraint → Fraction
three_size p q r = elim (int_lt (pos 0) (corner p q r)) [
  | false ↦ pair_size q r
  | true ↦ elim (int_lt (pos 0) (corner q r p)) [
    | false ↦ pair_size r p
    | true ↦ elim (int_lt (pos 0) (corner r p q)) [ false ↦ pair_size p q | true ↦ circle_size p q r ]
  ]
]

-- the larger of two sizes
abbrev pub larger : Fraction → Fraction → Fraction
larger s t = elim (frac_le s t) [ true ↦ t | false ↦ s ]

-- the greatest f of a row, −1 where there is none
abbrev pub most : (Constraint → Fraction) → List Constraint → Fraction
most f [] = minus_one
most f (x ∷ []) = f x
most f (x ∷ y ∷ F) = larger (f x) (most f (y ∷ F))

-- the greatest size of three rows, repeats included
unfoldable pub greatest : List Constraint → Fraction
greatest F = most (λ x. most (λ y. most (λ z. three_size x y z) F) F) F

abbrev pub discs : Meaning
discs = record {
  Rival = DiscRival;
  Size = Fraction;
  admitted = admits_point;
  keeps = KeepsPoint;
  size = disc_size;
  le = frac_le;
  same = frac_same;
  value = λ F. finite (greatest F);
  dimension = 3;
}
