-- The centre in lowest terms stands for a best disc.
use Rattle.std.proofs.Common.{◌≡◌, true, List, [], ◌∷◌, ℤ, pos, ◌+ℤ◌, ◌-ℤ◌, ◌*ℤ◌, Some, sym, refl, ap, ◌∙◌, arith}
use Rattle.rows.specs.declared.row.Constraint.{Constraint}
use Rattle.lptype.specs.Questions.{ReadsBest}
use Rattle.algebra.proofs.Ring.{num, ◌⊕◌, ◌⊖◌, ◌⊗◌, ◌≐◌, ring1, ring2, ring3}
use Rattle.algebra.proofs.Order.{lin, eq_by, zero_diff, mul_zero}
use Rattle.lowest.specs.Reduced.{LowestTerms}
use Rattle.lowest.specs.declared.reduce.RationalPoint.{RationalPoint}
use Rattle.circles.specs.Angles.{turn, centre_x, centre_y}
use Rattle.circles.specs.Discs.{Circle, empty_disc, disc, greatest, discs}
use Rattle.circles.specs.Tests.{acute}
use Rattle.circles.proofs.Optimal.{Optimal, single, single_best, pair, turn_pos, triangle, triangle_best}
use Rattle.circles.proofs.Standing.{optimal_value, two_best}
use Rattle.circles.proofs.Deciding.{decides_acute, turn_apart}
use Rattle.disc.specs.Centres.{Reads}
use Rattle.disc.specs.declared.answer.DiscAnswer.TheVariants.{Empty, Centre}

-- the centre of c is x/d, y/d
record Same (c : Circle) (x y d : ℤ) : Type 0 where
  same_x : c.X *ℤ d ≡ x *ℤ c.D
  same_y : c.Y *ℤ d ≡ y *ℤ c.D
  apart : ¬ (d ≡ pos 0)

cancel_apart : (k u v : ℤ) → ¬ (k ≡ pos 0) → u *ℤ k ≡ v *ℤ k → u ≡ v
cancel_apart k u v n e = sym (eq_by {x = u -ℤ v} (mul_zero {a = k} {b = u -ℤ v} (ring3 (λ k u v. k ⊗ (u ⊖ v) ≐ u ⊗ k ⊖ v ⊗ k) refl k u v ∙ zero_diff (sym e)) n) refl)

-- X/D and x/d are each m/k
proportional : (X D x d m k : ℤ) → ¬ (k ≡ pos 0) → X *ℤ k ≡ m *ℤ D → x *ℤ k ≡ m *ℤ d → X *ℤ d ≡ x *ℤ D
proportional X D x d m k n e f = cancel_apart k (X *ℤ d) (x *ℤ D) n
    (ring3 (λ X d k. X ⊗ d ⊗ k ≐ X ⊗ k ⊗ d) refl X d k ∙ ap (λ (z : ℤ). z *ℤ d) e
    ∙ ring3 (λ m D d. m ⊗ D ⊗ d ≐ m ⊗ d ⊗ D) refl m D d ∙ ap (λ (z : ℤ). z *ℤ D) (sym f)
    ∙ ring3 (λ x k D. x ⊗ k ⊗ D ≐ x ⊗ D ⊗ k) refl x k D)

best_centre : (c : Circle) (o : Constraint) (F : List Constraint) → Optimal c (o ∷ F) → {x y d : ℤ} → Same c x y d → (a : RationalPoint) → LowestTerms x y d a.x a.y a.d → ReadsBest discs Reads (o ∷ F) (Centre a)
best_centre c o F b {x} {y} {d} s a l = (
  Some (disc c),
  (
    l.reduced,
    proportional c.X c.D a.x a.d x d s.apart s.same_x l.same_x,
    proportional c.Y c.D a.y a.d y d s.apart s.same_y l.same_y,
  ),
  (b.all, optimal_value c o F b),
)

pub best_none : ReadsBest discs Reads [] Empty
unfolding greatest
best_none = (Some empty_disc, tt, ((λ x i. absurd i), refl))

-- the answer to a place by the numbers x, y and d

module _ {x y d : ℤ} (a : RationalPoint) (l : LowestTerms x y d a.x a.y a.d) where
  two_apart : d ≡ pos 2 → ¬ (d ≡ pos 0)
  two_apart e f = omega (arith, lin)

  pub best_pair : (p q : Constraint) → x ≡ p.a +ℤ q.a → y ≡ p.b +ℤ q.b → d ≡ pos 2 → ReadsBest discs Reads (p ∷ q ∷ []) (Centre a)
  best_pair p q e f g = best_centre (pair p q) p (q ∷ []) (two_best p q)
      (record { same_x = (λ i. (p.a +ℤ q.a) *ℤ g i) ∙ (λ i. sym e i *ℤ pos 2); same_y = (λ i. (p.b +ℤ q.b) *ℤ g i) ∙ (λ i. sym f i *ℤ pos 2); apart = two_apart g }) a l

  pub best_single : (p : Constraint) → x ≡ p.a +ℤ p.a → y ≡ p.b +ℤ p.b → d ≡ pos 2 → ReadsBest discs Reads (p ∷ []) (Centre a)
  best_single p e f g = best_centre (single p) p [] (single_best p)
      (record {
        same_x = (λ i. p.a *ℤ g i) ∙ ring1 (λ n. n ⊗ num 2 ≐ (n ⊕ n) ⊗ num 1) refl p.a ∙ (λ i. sym e i *ℤ pos 1);
        same_y = (λ i. p.b *ℤ g i) ∙ ring1 (λ n. n ⊗ num 2 ≐ (n ⊕ n) ⊗ num 1) refl p.b ∙ (λ i. sym f i *ℤ pos 1);
        apart = two_apart g;
      }) a l

  pub best_triangle : (p q r : Constraint) → acute p q r ≡ true → x ≡ centre_x p q r → y ≡ centre_y p q r → d ≡ pos 2 *ℤ turn p q r → ReadsBest discs Reads (p ∷ q ∷ r ∷ []) (Centre a)
  best_triangle p q r t e f g =
      let k = (decides_acute p q r).0 t in
      best_centre (triangle p q r (turn_pos p q r k)) p (q ∷ r ∷ []) (triangle_best p q r k)
      (record {
        same_x = (λ i. turn p q r *ℤ centre_x p q r *ℤ g i) ∙ ring2 (λ k n. k ⊗ n ⊗ (num 2 ⊗ k) ≐ n ⊗ (num 2 ⊗ (k ⊗ k))) refl (turn p q r) (centre_x p q r) ∙ (λ i. sym e i *ℤ (pos 2 *ℤ (turn p q r *ℤ turn p q r)));
        same_y = (λ i. turn p q r *ℤ centre_y p q r *ℤ g i) ∙ ring2 (λ k n. k ⊗ n ⊗ (num 2 ⊗ k) ≐ n ⊗ (num 2 ⊗ (k ⊗ k))) refl (turn p q r) (centre_y p q r) ∙ (λ i. sym f i *ℤ (pos 2 *ℤ (turn p q r *ℤ turn p q r)));
        apart = λ z. turn_apart p q r t (sym g ∙ z);
      }) a l
