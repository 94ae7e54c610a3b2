-- The sign of a whole number: cases by it, and what a positive factor leaves of it.
use Rattle.std.proofs.Common.{◌≡◌, ℕ, suc, ℤ, pos, ◌*ℤ◌, neg_ℤ, ◌≤ℤ◌, ◌<ℤ◌, sym, refl, ◌∙◌, subst, arith}
use Rattle.std.proofs.lemmas.Int.{ints, by_lt_z}
use lib.Signed.{<ℤ_irrefl}
use Rattle.algebra.proofs.Ring.{num, ◌⊖◌, ◌⊗◌, ◌≐◌, ring2}
use Rattle.algebra.proofs.Order.{lin, le_by_mul, lt_by_mul, eq_by_mul, le_of_lt, antisym}

pub suc_pos : (n : ℕ) → pos 0 <ℤ pos (suc n)
suc_pos n = omega (arith, ints)

-- above, at or below 0
pub by_sign : {P : Type 0} (x : ℤ) → (pos 0 <ℤ x → P) → (x ≡ pos 0 → P) → (x <ℤ pos 0 → P) → P
by_sign x f g h = by_lt_z (pos 0) x f (λ l. by_lt_z x (pos 0) h (λ k. g (antisym l k)))

pub by_zero : {P : Type 0} (x : ℤ) → (x ≡ pos 0 → P) → (¬ (x ≡ pos 0) → P) → P
by_zero x f g = by_sign x (λ h. g (λ e. <ℤ_irrefl (subst (λ v. pos 0 <ℤ v) e h))) f (λ h. g (λ e. <ℤ_irrefl (subst (λ v. v <ℤ pos 0) e h)))

-- m is above 0 and m · x = y: x has the sign of y

pub pos_of : {m x y : ℤ} → pos 0 <ℤ m → m *ℤ x ≡ y → pos 0 <ℤ y → pos 0 <ℤ x
pos_of {m} {x} h e i = lt_by_mul (le_of_lt h) i (ring2 (λ m x. m ⊗ (x ⊖ num 0) ≐ m ⊗ x) refl m x ∙ e)

pub nonneg_of : {m x y : ℤ} → pos 0 <ℤ m → m *ℤ x ≡ y → pos 0 ≤ℤ y → pos 0 ≤ℤ x
nonneg_of {m} {x} h e i = le_by_mul h i (ring2 (λ m x. m ⊗ (x ⊖ num 0) ≐ m ⊗ x) refl m x ∙ e)

pub zero_of : {m x y : ℤ} → pos 0 <ℤ m → m *ℤ x ≡ y → y ≡ pos 0 → x ≡ pos 0
zero_of {m} {x} h e i = sym (eq_by_mul h i (ring2 (λ m x. m ⊗ (x ⊖ num 0) ≐ m ⊗ x) refl m x ∙ e))

-- negatives

pub neg_above : {x y : ℤ} → y ≡ neg_ℤ x → x <ℤ pos 0 → pos 0 <ℤ y
neg_above {x} {y} e h = omega (arith, lin)

pub neg_zero : {x : ℤ} → neg_ℤ x ≡ pos 0 → x ≡ pos 0
neg_zero {x} e = omega (arith, lin)
