-- The smallest box, with sides along the axes, that holds the points of the rows: rivals, sizes, value.
use Rattle.std.specs.Prelude.{◌≡◌, true, List, [], ◌∷◌, ℤ, negsuc, ◌+ℤ◌, ◌-ℤ◌}
use Rattle.std.specs.Int.{int_max, int_min}
use Rattle.points.specs.Point.{admits_point}
use Rattle.rows.specs.declared.row.Constraint.{Constraint}
use Rattle.lptype.specs.Meaning.{Meaning, finite}
use Rattle.algebra.specs.Fraction.{Fraction, whole, frac_le, frac_same, frac_add, frac_sub}

-- a box: west at most east, south at most north
pub record Box : Type 0 where
  pub west : Fraction
  pub east : Fraction
  pub south : Fraction
  pub north : Fraction
  pub wide : frac_le west east ≡ true
  pub tall : frac_le south north ≡ true

pub data BoxRival : Type 0 where
  empty_box : BoxRival
  box : Box → BoxRival

-- n lies between the two fractions, or is one of them
abbrev pub Between : Fraction → ℤ → Fraction → Type 0
Between p n q = (frac_le p (whole n) ≡ true) × (frac_le (whole n) q ≡ true)

-- a box keeps the points inside or on a side; the empty box keeps none
abbrev pub KeepsPoint : BoxRival → Constraint → Type 0
KeepsPoint empty_box x = ⊥
KeepsPoint (box k) x = Between k.west x.a k.east × Between k.south x.b k.north

-- width and height together; −1 for the empty box
abbrev pub box_size : BoxRival → Fraction
box_size empty_box = whole (negsuc 0)
box_size (box k) = frac_add (frac_sub k.east k.west) (frac_sub k.north k.south)

-- the greatest and the least f of x and the rows of F
abbrev pub greatest : (Constraint → ℤ) → Constraint → List Constraint → ℤ
greatest f x [] = f x
greatest f x (y ∷ F) = int_max (f x) (greatest f y F)

abbrev pub least : (Constraint → ℤ) → Constraint → List Constraint → ℤ
least f x [] = f x
least f x (y ∷ F) = int_min (f x) (least f y F)

abbrev pub spread : (Constraint → ℤ) → Constraint → List Constraint → ℤ
spread f x F = greatest f x F -ℤ least f x F

abbrev pub easting : Constraint → ℤ
easting x = x.a

abbrev pub northing : Constraint → ℤ
northing x = x.b

-- the spread to the east and to the north together; −1 where there is no row
abbrev pub extent : List Constraint → ℤ
extent [] = negsuc 0
extent (x ∷ F) = spread easting x F +ℤ spread northing x F

abbrev pub boxes : Meaning
boxes = record {
  Rival = BoxRival;
  Size = Fraction;
  admitted = admits_point;
  keeps = KeepsPoint;
  size = box_size;
  le = frac_le;
  same = frac_same;
  value = λ F. finite (whole (extent F));
  dimension = 4;
}
