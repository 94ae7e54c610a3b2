-- All laws of the plane, for every list of forms that separates points; cost, then x, then y is one.
use Rattle.std.proofs.Common.{◌≡◌, List, ℤ, pos, ◌+ℤ◌, ◌*ℤ◌, refl, arith}
use Rattle.lptype.specs.Laws.{Laws}
use Rattle.lptype.proofs.Derived.{laws}
use Rattle.algebra.proofs.Ring.{num, ◌⊕◌, ◌⊖◌, ◌⊗◌, ◌≐◌, ring6}
use Rattle.algebra.proofs.Order.{eq_from}
use Rattle.limits.specs.Forms.{Form, Separates}
use Rattle.limits.specs.Plane.{plane_by, cost_x_y, plane}
use Rattle.limits.proofs.Best.{sizes}
use Rattle.limits.proofs.Rivals.{by_rivals}
use Rattle.limits.proofs.Few.{few}

pub plane_by_laws : (fs : List Form) → Separates fs → Laws (plane_by fs)
plane_by_laws fs sep = laws (plane_by fs) (record {
  sizes = sizes fs;
  few = λ F a. few fs F;
  rivals = by_rivals fs sep;
  dimension_positive = omega arith;
  dimension_small = omega arith;
})

-- the forms x and y

x_alone : (x y x' y' d d' : ℤ) → (pos 1 *ℤ x +ℤ pos 0 *ℤ y) *ℤ d' ≡ (pos 1 *ℤ x' +ℤ pos 0 *ℤ y') *ℤ d → x *ℤ d' ≡ x' *ℤ d
x_alone x y x' y' d d' e = eq_from (pos 1) e (ring6 (λ x y x' y' d d'. x' ⊗ d ⊖ x ⊗ d' ≐ num 1 ⊗ ((num 1 ⊗ x' ⊕ num 0 ⊗ y') ⊗ d ⊖ (num 1 ⊗ x ⊕ num 0 ⊗ y) ⊗ d')) refl x y x' y' d d')

y_alone : (x y x' y' d d' : ℤ) → (pos 0 *ℤ x +ℤ pos 1 *ℤ y) *ℤ d' ≡ (pos 0 *ℤ x' +ℤ pos 1 *ℤ y') *ℤ d → y *ℤ d' ≡ y' *ℤ d
y_alone x y x' y' d d' e = eq_from (pos 1) e (ring6 (λ x y x' y' d d'. y' ⊗ d ⊖ y ⊗ d' ≐ num 1 ⊗ ((num 0 ⊗ x' ⊕ num 1 ⊗ y') ⊗ d ⊖ (num 0 ⊗ x ⊕ num 1 ⊗ y) ⊗ d')) refl x y x' y' d d')

pub cost_x_y_separates : (p q : ℤ) → Separates (cost_x_y p q)
cost_x_y_separates p q s t e = (x_alone s.X s.Y t.X t.Y s.D t.D e.1.0, y_alone s.X s.Y t.X t.Y s.D t.D e.1.1.0)

pub plane_laws : (p q : ℤ) → Laws (plane p q)
plane_laws p q = plane_by_laws (cost_x_y p q) (cost_x_y_separates p q)
