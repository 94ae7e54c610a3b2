-- The order of fractions: reflexive, transitive, total, antisymmetric up to equality, and compatible with sums.
use Rattle.std.proofs.Common.{◌≡◌, suc, true, ◌⊎◌, ℤ, pos, ◌+ℤ◌, ◌-ℤ◌, ◌*ℤ◌, ◌≤ℤ◌, ◌<ℤ◌, sym, refl, ap, ◌∙◌, inl, inr, ⊎_elim, suc-mul, mul-suc, arith}
use lib.IntN.{zero-*ℤ}
use lib.Signed.{≤ℤ_refl}
use Rattle.std.proofs.lemmas.Int.{ints}
use Rattle.algebra.specs.Fraction.{Fraction, denominator, whole, frac_le, frac_same, frac_add, frac_neg, frac_sub}
use Rattle.algebra.proofs.Ring.{num, ◌⊕◌, ◌⊖◌, ◌⊗◌, ⊝, ◌≐◌, ring2, ring4, ring8}
use Rattle.algebra.proofs.Order.{total, antisym, le_of_eq, le_of_lt, le_by, cancel_le, mul_le, add_nonneg, mul_nonneg, mul_pos, nonneg_diff, frac_trans, le_z_in, le_z_out}

pub denominator_pos : (p : Fraction) → pos 0 <ℤ denominator p
denominator_pos p = omega (arith, ints)

-- the order as a test and as a fact

pub fraction_out : (p q : Fraction) → frac_le p q ≡ true → (p.numerator *ℤ denominator q) ≤ℤ (q.numerator *ℤ denominator p)
fraction_out p q h = le_z_out {a = p.numerator *ℤ denominator q} {b = q.numerator *ℤ denominator p} h

pub fraction_in : (p q : Fraction) → (p.numerator *ℤ denominator q) ≤ℤ (q.numerator *ℤ denominator p) → frac_le p q ≡ true
fraction_in p q h = le_z_in h

-- the order

pub fraction_refl : (p : Fraction) → frac_le p p ≡ true
fraction_refl p = fraction_in p p (≤ℤ_refl (p.numerator *ℤ denominator p))

pub fraction_trans : (p q r : Fraction) → frac_le p q ≡ true → frac_le q r ≡ true → frac_le p r ≡ true
fraction_trans p q r h i = fraction_in p r (frac_trans p.numerator q.numerator r.numerator (denominator_pos p) (denominator_pos q) (denominator_pos r) (fraction_out p q h) (fraction_out q r i))

pub fraction_total : (p q : Fraction) → (frac_le p q ≡ true) ⊎ (frac_le q p ≡ true)
fraction_total p q = ⊎_elim (λ h. inl (fraction_in p q h)) (λ h. inr (fraction_in q p h)) (total (p.numerator *ℤ denominator q) (q.numerator *ℤ denominator p))

pub fraction_antisym : (p q : Fraction) → frac_le p q ≡ true → frac_le q p ≡ true → frac_same p q
fraction_antisym p q h i = antisym (fraction_out p q h) (fraction_out q p i)

pub fraction_same_le : (p q : Fraction) → frac_same p q → (frac_le p q ≡ true) × (frac_le q p ≡ true)
fraction_same_le p q e = (fraction_in p q (le_of_eq e), fraction_in q p (le_of_eq (sym e)))

-- whole numbers

pub whole_le : {a b : ℤ} → a ≤ℤ b → frac_le (whole a) (whole b) ≡ true
whole_le {a} {b} h = fraction_in (whole a) (whole b) (mul_le (record { le = tt }) h)

pub whole_out : (a b : ℤ) → frac_le (whole a) (whole b) ≡ true → a ≤ℤ b
whole_out a b h = cancel_le {c = pos 1} (record { lt = tt }) (fraction_out (whole a) (whole b) h)

-- sums

-- the denominators multiply
pub denominator_add : (p q : Fraction) → denominator (frac_add p q) ≡ denominator p *ℤ denominator q
denominator_add p q = ap pos (omega (arith, suc-mul p.under (suc q.under), mul-suc p.under q.under))

-- a/b + c/d and e/f + g/h, over the denominators u and v of the sums
module _ (a b c d e f g h u v : ℤ) (up : u ≡ b *ℤ d) (vp : v ≡ f *ℤ h) (pb : pos 0 <ℤ b) (pd : pos 0 <ℤ d) (pf : pos 0 <ℤ f) (ph : pos 0 <ℤ h) where
  -- the cross products of the sums differ by those of the summands
  crossed : (e *ℤ h +ℤ g *ℤ f) *ℤ u -ℤ (a *ℤ d +ℤ c *ℤ b) *ℤ v ≡ (e *ℤ b -ℤ a *ℤ f) *ℤ (d *ℤ h) +ℤ (g *ℤ d -ℤ c *ℤ h) *ℤ (b *ℤ f)
  crossed =
      ap (λ (x : ℤ). (e *ℤ h +ℤ g *ℤ f) *ℤ x -ℤ (a *ℤ d +ℤ c *ℤ b) *ℤ v) up
      ∙ ap (λ (x : ℤ). (e *ℤ h +ℤ g *ℤ f) *ℤ (b *ℤ d) -ℤ (a *ℤ d +ℤ c *ℤ b) *ℤ x) vp
      ∙ ring8 (λ a b c d e f g h. (e ⊗ h ⊕ g ⊗ f) ⊗ (b ⊗ d) ⊖ (a ⊗ d ⊕ c ⊗ b) ⊗ (f ⊗ h) ≐ (e ⊗ b ⊖ a ⊗ f) ⊗ (d ⊗ h) ⊕ (g ⊗ d ⊖ c ⊗ h) ⊗ (b ⊗ f)) refl a b c d e f g h

  sum_le : (a *ℤ f) ≤ℤ (e *ℤ b) → (c *ℤ h) ≤ℤ (g *ℤ d) → ((a *ℤ d +ℤ c *ℤ b) *ℤ v) ≤ℤ ((e *ℤ h +ℤ g *ℤ f) *ℤ u)
  sum_le i j = le_by (add_nonneg (mul_nonneg (nonneg_diff i) (le_of_lt (mul_pos pd ph))) (mul_nonneg (nonneg_diff j) (le_of_lt (mul_pos pb pf)))) crossed

pub fraction_add_le : (p q r s : Fraction) → frac_le p r ≡ true → frac_le q s ≡ true → frac_le (frac_add p q) (frac_add r s) ≡ true
fraction_add_le p q r s h i = fraction_in (frac_add p q) (frac_add r s) (sum_le
    p.numerator (denominator p) q.numerator (denominator q) r.numerator (denominator r) s.numerator (denominator s)
    (denominator (frac_add p q)) (denominator (frac_add r s)) (denominator_add p q) (denominator_add r s)
    (denominator_pos p) (denominator_pos q) (denominator_pos r) (denominator_pos s)
    (fraction_out p r h) (fraction_out q s i))

pub whole_add : (a b : ℤ) → frac_same (frac_add (whole a) (whole b)) (whole (a +ℤ b))
whole_add = ring2 (λ a b. (a ⊗ num 1 ⊕ b ⊗ num 1) ⊗ num 1 ≐ (a ⊕ b) ⊗ num 1) refl

-- differences

pub fraction_neg_le : (p q : Fraction) → frac_le p q ≡ true → frac_le (frac_neg q) (frac_neg p) ≡ true
fraction_neg_le p q h = fraction_in (frac_neg q) (frac_neg p) (le_by (nonneg_diff (fraction_out p q h))
    (ring4 (λ a b c d. ⊝ a ⊗ d ⊖ ⊝ c ⊗ b ≐ c ⊗ b ⊖ a ⊗ d) refl p.numerator (denominator p) q.numerator (denominator q)))

pub fraction_sub_self : (p : Fraction) → frac_same (whole (pos 0)) (frac_sub p p)
fraction_sub_self p =
    zero-*ℤ (denominator (frac_sub p p)) ∙ ring2 (λ a b. num 0 ≐ (a ⊗ b ⊕ ⊝ a ⊗ b) ⊗ num 1) refl p.numerator (denominator p)

-- a difference is not negative where the second is at most the first
pub fraction_sub_nonneg : (p q : Fraction) → frac_le q p ≡ true → frac_le (whole (pos 0)) (frac_sub p q) ≡ true
fraction_sub_nonneg p q h = fraction_trans (whole (pos 0)) (frac_sub q q) (frac_sub p q)
    (fraction_same_le (whole (pos 0)) (frac_sub q q) (fraction_sub_self q)).0
    (fraction_add_le q (frac_neg q) p (frac_neg q) h (fraction_refl (frac_neg q)))
