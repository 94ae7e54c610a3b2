-- The tests decide whether a list stands and whether a row violates it.
use Rattle.std.proofs.Common.{◌≡◌, Bool, true, false, cond, ◌&&◌, ◌↔◌, [], ◌∷◌, ℤ, pos, ◌*ℤ◌, neg_ℤ, ◌≤ℤ◌, ◌<ℤ◌, Decides, refl, subst, arith}
use lib.Signed.{lt_z, clash_ℤ, <ℤ_irrefl}
use Rattle.std.proofs.lemmas.Int.{by_lt_z}
use Rattle.std.proofs.lemmas.Bool.Decides.{Decides-like, Decides-and}
use Rattle.rows.specs.declared.row.Constraint.{Constraint}
use Rattle.lptype.specs.Meaning.{Stands, Raises}
use Rattle.algebra.proofs.Ring.{num, ◌⊖◌, ◌⊗◌, ⊝, ◌≐◌, ring2}
use Rattle.algebra.proofs.Order.{lin, lt_by, le_of_lt, mul_nonneg, mul_pos, lt_z_in, lt_z_out, lt_z_false}
use Rattle.circles.specs.Angles.{apart, corner, turn, Differ, Acute, power}
use Rattle.circles.specs.Discs.{discs}
use Rattle.circles.specs.Tests.{differ, acute, outside_pair, outside_circle}
use Rattle.circles.proofs.Optimal.{turn_pos}
use Rattle.circles.proofs.Standing.{apart_pos, apart_differ, stands_two, stands_three}
use Rattle.circles.proofs.Violating.{violates_one, violates_two, violates_three}

decides_lt_z : (a b : ℤ) → Decides (lt_z a b) (a <ℤ b)
decides_lt_z a b = (lt_z_out, lt_z_in)

decides_iff : {P Q : Type 0} (t : Bool) → Decides t P → Q ↔ P → Decides t Q
decides_iff t d e = Decides-like t e.1 e.0 d

pub decides_differ : (p q : Constraint) → Decides (differ p q) (Differ p q)
decides_differ p q = Decides-like (differ p q) (apart_differ p q) (apart_pos p q) (decides_lt_z (pos 0) (apart p q))

pub stands_differ : (p q : Constraint) → Decides (differ p q) (Stands discs (p ∷ q ∷ []))
stands_differ p q = decides_iff (differ p q) (decides_differ p q) (stands_two p q)

pub decides_acute : (p q r : Constraint) → Decides (acute p q r) (Acute p q r)
decides_acute p q r = Decides-like (acute p q r)
    (λ a. record { at_p = a.0.0; at_q = a.0.1; at_r = a.1 })
    (λ a. ((a.at_p, a.at_q), a.at_r))
    (Decides-and (lt_z (pos 0) (corner p q r) && lt_z (pos 0) (corner q r p)) (lt_z (pos 0) (corner r p q))
    (Decides-and (lt_z (pos 0) (corner p q r)) (lt_z (pos 0) (corner q r p)) (decides_lt_z (pos 0) (corner p q r)) (decides_lt_z (pos 0) (corner q r p)))
    (decides_lt_z (pos 0) (corner r p q)))

-- an acute triangle turns
pub turn_apart : (p q r : Constraint) → acute p q r ≡ true → ¬ (pos 2 *ℤ turn p q r ≡ pos 0)
turn_apart p q r a e = <ℤ_irrefl (subst (λ (k : ℤ). pos 0 <ℤ (k *ℤ k)) zero (turn_pos p q r ((decides_acute p q r).0 a)))
  where
    zero : turn p q r ≡ pos 0
    zero = omega (arith, lin)

pub stands_acute : (p q r : Constraint) → Decides (acute p q r) (Stands discs (p ∷ q ∷ r ∷ []))
stands_acute p q r = decides_iff (acute p q r) (decides_acute p q r) (stands_three p q r)

pub raises_differ : (p h : Constraint) → Decides (differ p h) (Raises discs (p ∷ []) h)
raises_differ p h = decides_iff (differ p h) (decides_differ p h) (violates_one p h)

pub raises_pair : (p q h : Constraint) → Decides (outside_pair p q h) (Raises discs (p ∷ q ∷ []) h)
raises_pair p q h = decides_iff (outside_pair p q h) (decides_lt_z (pos 0) (corner h p q)) (violates_two p q h)

-- a product is below 0 where its factors have opposite signs

neg_pos : {s : ℤ} → s <ℤ pos 0 → pos 0 <ℤ neg_ℤ s
neg_pos {s} h = omega (arith, lin)

nonpos_neg : {s : ℤ} → s ≤ℤ pos 0 → pos 0 ≤ℤ neg_ℤ s
nonpos_neg {s} h = omega (arith, lin)

by_opposite : (k s : ℤ) → pos 0 <ℤ (k *ℤ k) → Decides (cond (lt_z k (pos 0)) (lt_z (pos 0) s) (lt_z s (pos 0))) ((k *ℤ s) <ℤ pos 0)
by_opposite k s h = go (lt_z k (pos 0)) refl
  where
    below : k <ℤ pos 0 → Decides (lt_z (pos 0) s) ((k *ℤ s) <ℤ pos 0)
    below l = Decides-like (lt_z (pos 0) s)
        (λ i. lt_by (mul_pos (neg_pos l) i) (ring2 (λ k s. num 0 ⊖ k ⊗ s ≐ ⊝ k ⊗ s) refl k s))
        (λ i. by_lt_z (pos 0) s (λ j. j) (λ j. clash_ℤ i (subst (λ (z : ℤ). pos 0 ≤ℤ z) (ring2 (λ k s. ⊝ k ⊗ ⊝ s ≐ k ⊗ s) refl k s) (mul_nonneg (le_of_lt (neg_pos l)) (nonpos_neg j)))))
        (decides_lt_z (pos 0) s)

    above : pos 0 ≤ℤ k → Decides (lt_z s (pos 0)) ((k *ℤ s) <ℤ pos 0)
    above l = Decides-like (lt_z s (pos 0))
        (λ i. by_lt_z (pos 0) k
        (λ j. lt_by (mul_pos j (neg_pos i)) (ring2 (λ k s. num 0 ⊖ k ⊗ s ≐ k ⊗ ⊝ s) refl k s))
        (λ j. clash_ℤ h (subst (λ (z : ℤ). z ≤ℤ pos 0) (ring2 (λ k s. ⊝ (k ⊗ ⊝ k) ≐ k ⊗ k) refl k k) (nonneg_neg (mul_nonneg l (nonpos_neg j))))))
        (λ i. by_lt_z s (pos 0) (λ j. j) (λ j. clash_ℤ i (mul_nonneg l j)))
        (decides_lt_z s (pos 0))
      where
        nonneg_neg : {z : ℤ} → pos 0 ≤ℤ z → neg_ℤ z ≤ℤ pos 0
        nonneg_neg {z} h = omega (arith, lin)

    go : (b : Bool) → lt_z k (pos 0) ≡ b → Decides (cond b (lt_z (pos 0) s) (lt_z s (pos 0))) ((k *ℤ s) <ℤ pos 0)
    go true e = below (lt_z_out e)
    go false e = above (lt_z_false e)

pub raises_circle : (p q r h : Constraint) → Acute p q r → Decides (outside_circle p q r h) (Raises discs (p ∷ q ∷ r ∷ []) h)
raises_circle p q r h a = decides_iff (outside_circle p q r h) (by_opposite (turn p q r) (power p q r h) (turn_pos p q r a)) (violates_three p q r h a)
