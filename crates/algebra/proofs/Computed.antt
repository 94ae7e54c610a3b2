-- How large a computed number can be: bounds that follow an expression, and so that each result fits its type.
use Rattle.std.proofs.Common.{◌≡◌, ℕ, zero, suc, ◌+◌, ◌*◌, ◌^◌, ◌<◌, ◌≤◌, T, ltb, ℤ, pos, negsuc, ◌+ℤ◌, ◌-ℤ◌, ◌*ℤ◌, neg_ℤ, nat_abs, ◌≤ℤ◌, sym, refl, ap, ◌∙◌, subst, le_trans, le_of_eq, le_refl, mul-le-mul, arith, ltb→lt, SFits, to_z, of_z}
use Rattle.std.proofs.lemmas.Int.{ints, to_z-of_z}
use borrow.Author.Differences.{sum_is_lem, neg_is, abs_is}
use Rattle.algebra.specs.Small.{Small}
use mir.Syntax.{Width}
use mir.Val.{hbits}

pub small_add : {m n : ℕ} {a b : ℤ} → Small m a → Small n b → Small (m + n) (a +ℤ b)
small_add {m} {n} {a} {b} h i = record { small = omega (arith, abs_is a, abs_is b, abs_is (a +ℤ b), sum_is_lem a b, h.small, i.small) }

pub small_neg : {m : ℕ} {a : ℤ} → Small m a → Small m (neg_ℤ a)
small_neg {m} {a} h = record { small = omega (arith, abs_is a, abs_is (neg_ℤ a), neg_is a, h.small) }

pub small_sub : {m n : ℕ} {a b : ℤ} → Small m a → Small n b → Small (m + n) (a -ℤ b)
small_sub h i = small_add h (small_neg i)

abs_neg : (a : ℕ) → nat_abs (neg_ℤ (pos a)) ≡ a
abs_neg zero = refl
abs_neg (suc a) = refl

pub abs_mul : (a b : ℤ) → nat_abs (a *ℤ b) ≡ nat_abs a * nat_abs b
abs_mul (pos a) (pos b) = refl
abs_mul (pos a) (negsuc b) = abs_neg (a * suc b)
abs_mul (negsuc a) (pos b) = abs_neg (suc a * b)
abs_mul (negsuc a) (negsuc b) = refl

pub small_mul : {m n : ℕ} {a b : ℤ} → Small m a → Small n b → Small (m * n) (a *ℤ b)
small_mul {m} {n} {a} {b} h i = record { small = le_trans (le_of_eq (abs_mul a b)) (mul-le-mul h.small i.small) }

pub small_more : (m : ℕ) {n : ℕ} {a : ℤ} → Small n a → n ≤ m → Small m a
small_more m h l = record { small = le_trans h.small l }

pub small_by : (n : ℕ) {z : ℤ} → neg_ℤ (pos n) ≤ℤ z → z ≤ℤ pos n → Small n z
small_by n {z} l h = record { small = omega (arith, ints, abs_is z) }

pub fits_small : {w : Width} {z : ℤ} → SFits w z → Small (2 ^ hbits w) z
fits_small {w} {z} f = record { small = omega (arith, ints, abs_is z) }

pub small_fits : (w : Width) {n : ℕ} {z : ℤ} → Small n z → T (ltb n (2 ^ hbits w)) → SFits w z
small_fits w {n} {z} h t = let l : n < 2 ^ hbits w = ltb→lt n (2 ^ hbits w) t in let s : nat_abs z ≤ n = h.small in omega (arith, ints, abs_is z)

-- what code computes: the term x, with its ways to bits and back, is the number z, and −n ≤ z ≤ n.
-- A proof follows the expression of the code, and gives both that each result fits (`val_fits`) and what it is (`.is`)
pub record Val (n : ℕ) (x z : ℤ) : Type 0 where
  pub is : x ≡ z
  pub size : Small n z

pub val : {w : Width} {z : ℤ} → SFits w z → Val (2 ^ hbits w) z z
val f = record { is = refl; size = fits_small f }

-- a parameter, a field or an element of the width w, as it is read
pub val_read : {w : Width} {z : ℤ} → SFits w z → Val (2 ^ hbits w) (to_z w (of_z w z)) z
val_read {w} {z} f = record { is = to_z-of_z w z f; size = fits_small f }

-- the same, with a tighter bound that the contract asks for
pub val_within : {w : Width} {n : ℕ} {z : ℤ} → SFits w z → Small n z → Val n (to_z w (of_z w z)) z
val_within {w} {z} f s = record { is = to_z-of_z w z f; size = s }

pub val_lit : (z : ℤ) → Val (nat_abs z) z z
val_lit z = record { is = refl; size = record { small = le_refl (nat_abs z) } }

pub val_add : {m n : ℕ} {x y a b : ℤ} → Val m x a → Val n y b → Val (m + n) (x +ℤ y) (a +ℤ b)
val_add {y} {a} h i = record { is = ap (λ (s : ℤ). s +ℤ y) h.is ∙ ap (λ (s : ℤ). a +ℤ s) i.is; size = small_add h.size i.size }

pub val_sub : {m n : ℕ} {x y a b : ℤ} → Val m x a → Val n y b → Val (m + n) (x -ℤ y) (a -ℤ b)
val_sub {y} {a} h i = record { is = ap (λ (s : ℤ). s -ℤ y) h.is ∙ ap (λ (s : ℤ). a -ℤ s) i.is; size = small_sub h.size i.size }

pub val_mul : {m n : ℕ} {x y a b : ℤ} → Val m x a → Val n y b → Val (m * n) (x *ℤ y) (a *ℤ b)
val_mul {y} {a} h i = record { is = ap (λ (s : ℤ). s *ℤ y) h.is ∙ ap (λ (s : ℤ). a *ℤ s) i.is; size = small_mul h.size i.size }

pub val_neg : {m : ℕ} {x a : ℤ} → Val m x a → Val m (neg_ℤ x) (neg_ℤ a)
val_neg h = record { is = ap neg_ℤ h.is; size = small_neg h.size }

-- to the bits of the width w, and back
pub through : (w : Width) {n : ℕ} {x z : ℤ} → Val n x z → T (ltb n (2 ^ hbits w)) → Val n (to_z w (of_z w x)) z
through w h t = record { is = ap (λ (s : ℤ). to_z w (of_z w s)) h.is ∙ to_z-of_z w _ (small_fits w h.size t); size = h.size }

pub val_fits : (w : Width) {n : ℕ} {x z : ℤ} → Val n x z → T (ltb n (2 ^ hbits w)) → SFits w x
val_fits w h t = subst (SFits w) (sym h.is) (small_fits w h.size t)

-- a number of known size, as it is read from the width w
pub val_of : (w : Width) {n : ℕ} {z : ℤ} → Small n z → T (ltb n (2 ^ hbits w)) → Val n (to_z w (of_z w z)) z
val_of w {n} {z} s t = through w {n = n} {x = z} {z = z} (record { is = refl; size = s }) t

-- the computed term is as small
pub val_small : {n : ℕ} {x z : ℤ} → Val n x z → Small n x
val_small {n} h = subst (Small n) (sym h.is) h.size

-- what a call gave, of which its contract says the value and the size
pub val_result : (w : Width) {n : ℕ} {x z : ℤ} → x ≡ z → Small n x → T (ltb n (2 ^ hbits w)) → Val n (to_z w (of_z w x)) z
val_result w {n} {x} {z} e s t = through w {n = n} {x = x} {z = z} (record { is = e; size = subst (Small n) e s }) t
