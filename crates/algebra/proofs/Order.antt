-- The order of whole numbers: linear facts are `omega (arith, lin)`; products, common factors and cross products are lemmas.
use Rattle.std.proofs.Common.{◌≡◌, ℕ, zero, suc, ◌*◌, Bool, true, false, T, ◌⊎◌, ℤ, pos, negsuc, ◌+ℤ◌, ◌-ℤ◌, ◌*ℤ◌, nat_abs, ◌≤ℤ◌, ◌<ℤ◌, sym, refl, ap, ◌∙◌, subst, inl, inr, ⊎_elim, arith}
use Rattle.std.proofs.lemmas.Int.{ints, by_lt_z}
use Rattle.std.proofs.lemmas.Bool.{cases_Bool, both_ways}
use borrow.Author.Differences.{up, down, same_out, same_in, Apart-out, lt_out, le_out, below_in, at_most_in, sum_is_lem, neg_is, product_is}
use lib.IntN.{zero-*ℤ, *ℤ-zero}
use lib.Signed.{le_z, lt_z, clash_ℤ}
use Rattle.algebra.proofs.Ring.{num, ◌⊕◌, ◌⊖◌, ◌⊗◌, ◌≐◌, ring2, ring3, ring6}

-- a literal multiple
pub times_is : (n : ℕ) (a : ℤ) → (up (pos n *ℤ a) ≡ n * up a) × (down (pos n *ℤ a) ≡ n * down a)
times_is n a = omega (arith, product_is (pos n) a)

-- linear facts of ℤ, products that are no literal's multiple being unknowns: `omega (arith, lin)`
pub ruleset lin = (same_out, same_in, Apart-out, lt_out, le_out, below_in, at_most_in, sum_is_lem, neg_is, times_is)

-- the goal from another fact and an identity

-- 0 ≤ x and r - l = x: l ≤ r
pub le_by : {l r x : ℤ} → pos 0 ≤ℤ x → r -ℤ l ≡ x → l ≤ℤ r
le_by {l} {r} {x} h e = omega (arith, lin)

pub lt_by : {l r x : ℤ} → pos 0 <ℤ x → r -ℤ l ≡ x → l <ℤ r
lt_by {l} {r} {x} h e = omega (arith, lin)

pub eq_by : {l r x : ℤ} → x ≡ pos 0 → r -ℤ l ≡ x → l ≡ r
eq_by {l} {r} {x} h e = omega (arith, lin)

pub nonneg_diff : {l r : ℤ} → l ≤ℤ r → pos 0 ≤ℤ (r -ℤ l)
nonneg_diff {l} {r} h = omega (arith, lin)

pub pos_diff : {l r : ℤ} → l <ℤ r → pos 0 <ℤ (r -ℤ l)
pos_diff {l} {r} h = omega (arith, lin)

pub zero_diff : {l r : ℤ} → l ≡ r → r -ℤ l ≡ pos 0
zero_diff {l} {r} h = omega (arith, lin)

pub le_of_lt : {a b : ℤ} → a <ℤ b → a ≤ℤ b
le_of_lt {a} {b} h = omega (arith, lin)

pub le_of_eq : {a b : ℤ} → a ≡ b → a ≤ℤ b
le_of_eq {a} {b} h = omega (arith, lin)

pub le_trans : {a b c : ℤ} → a ≤ℤ b → b ≤ℤ c → a ≤ℤ c
le_trans {a} {b} {c} h i = omega (arith, lin)

pub antisym : {a b : ℤ} → a ≤ℤ b → b ≤ℤ a → a ≡ b
antisym {a} {b} h i = omega (arith, lin)

pub total : (a b : ℤ) → (a ≤ℤ b) ⊎ (b ≤ℤ a)
total a b = by_lt_z a b (λ h. inl (le_of_lt h)) (λ h. inr h)

-- sums and products

pub add_nonneg : {a b : ℤ} → pos 0 ≤ℤ a → pos 0 ≤ℤ b → pos 0 ≤ℤ (a +ℤ b)
add_nonneg {a} {b} h i = omega (arith, lin)

pub add_pos : {a b : ℤ} → pos 0 <ℤ a → pos 0 ≤ℤ b → pos 0 <ℤ (a +ℤ b)
add_pos {a} {b} h i = omega (arith, lin)

pub mul_nonneg : {a b : ℤ} → pos 0 ≤ℤ a → pos 0 ≤ℤ b → pos 0 ≤ℤ (a *ℤ b)
mul_nonneg {a = pos a} {b = pos b} h i = omega (arith, ints)
mul_nonneg {a = pos a} {b = negsuc b} h i = absurd i.le
mul_nonneg {a = negsuc a} {b} h i = absurd h.le

pub mul_pos : {a b : ℤ} → pos 0 <ℤ a → pos 0 <ℤ b → pos 0 <ℤ (a *ℤ b)
mul_pos {a = pos zero} {b} h i = absurd h.lt
mul_pos {a = pos (suc a)} {b = pos zero} h i = absurd i.lt
mul_pos {a = pos (suc a)} {b = pos (suc b)} h i = omega (arith, ints)
mul_pos {a = pos (suc a)} {b = negsuc b} h i = absurd i.lt
mul_pos {a = negsuc a} {b} h i = absurd h.lt

pub sq_nonneg : (a : ℤ) → pos 0 ≤ℤ (a *ℤ a)
sq_nonneg (pos a) = omega (arith, ints)
sq_nonneg (negsuc a) = omega (arith, ints)

pub sq_pos : (a : ℤ) → ¬ (a ≡ pos 0) → pos 0 <ℤ (a *ℤ a)
sq_pos (pos zero) n = absurd (n refl)
sq_pos (pos (suc a)) n = omega (arith, ints)
sq_pos (negsuc a) n = omega (arith, ints)

pub mul_le : {a b c : ℤ} → pos 0 ≤ℤ c → a ≤ℤ b → (a *ℤ c) ≤ℤ (b *ℤ c)
mul_le {a} {b} {c} h i = le_by (mul_nonneg (nonneg_diff i) h) (ring3 (λ a b c. b ⊗ c ⊖ a ⊗ c ≐ (b ⊖ a) ⊗ c) refl a b c)

pub mul_lt : {a b c : ℤ} → pos 0 <ℤ c → a <ℤ b → (a *ℤ c) <ℤ (b *ℤ c)
mul_lt {a} {b} {c} h i = lt_by (mul_pos (pos_diff i) h) (ring3 (λ a b c. b ⊗ c ⊖ a ⊗ c ≐ (b ⊖ a) ⊗ c) refl a b c)

-- a positive factor cancels

pub cancel_le : {a b c : ℤ} → pos 0 <ℤ c → (a *ℤ c) ≤ℤ (b *ℤ c) → a ≤ℤ b
cancel_le {a} {b} {c} h i = by_lt_z b a (λ l. clash_ℤ (mul_lt h l) i) (λ l. l)

pub cancel_lt : {a b c : ℤ} → pos 0 ≤ℤ c → (a *ℤ c) <ℤ (b *ℤ c) → a <ℤ b
cancel_lt {a} {b} {c} h i = by_lt_z a b (λ l. l) (λ l. clash_ℤ i (mul_le h l))

pub cancel_eq : {a b c : ℤ} → pos 0 <ℤ c → a *ℤ c ≡ b *ℤ c → a ≡ b
cancel_eq h e = antisym (cancel_le h (le_of_eq e)) (cancel_le h (le_of_eq (sym e)))

-- 0 < d and 0 ≤ x and d · (r - l) = x: l ≤ r
pub le_by_mul : {l r x d : ℤ} → pos 0 <ℤ d → pos 0 ≤ℤ x → d *ℤ (r -ℤ l) ≡ x → l ≤ℤ r
le_by_mul {l} {r} {x} {d} p h e = cancel_le p (le_by h (ring3 (λ l r d. r ⊗ d ⊖ l ⊗ d ≐ d ⊗ (r ⊖ l)) refl l r d ∙ e))

pub lt_by_mul : {l r x d : ℤ} → pos 0 ≤ℤ d → pos 0 <ℤ x → d *ℤ (r -ℤ l) ≡ x → l <ℤ r
lt_by_mul {l} {r} {x} {d} p h e = cancel_lt p (lt_by h (ring3 (λ l r d. r ⊗ d ⊖ l ⊗ d ≐ d ⊗ (r ⊖ l)) refl l r d ∙ e))

pub eq_by_mul : {l r x d : ℤ} → pos 0 <ℤ d → x ≡ pos 0 → d *ℤ (r -ℤ l) ≡ x → l ≡ r
eq_by_mul {l} {r} {x} {d} p h e = cancel_eq p (eq_by h (ring3 (λ l r d. r ⊗ d ⊖ l ⊗ d ≐ d ⊗ (r ⊖ l)) refl l r d ∙ e))

-- a factor of zero
pub mul_zero : {a b : ℤ} → a *ℤ b ≡ pos 0 → ¬ (a ≡ pos 0) → b ≡ pos 0
mul_zero {a} {b} e n = cancel_eq {c = a *ℤ a} (sq_pos a n)
    (ring2 (λ a b. b ⊗ (a ⊗ a) ≐ a ⊗ (a ⊗ b)) refl a b ∙ ap (λ (x : ℤ). a *ℤ x) e ∙ *ℤ-zero a ∙ sym (zero-*ℤ (a *ℤ a)))

-- two squares whose sum is 0
pub squares_zero : (a b : ℤ) → a *ℤ a +ℤ b *ℤ b ≡ pos 0 → (a ≡ pos 0) × (b ≡ pos 0)
squares_zero (pos zero) (pos zero) e = (refl, refl)
squares_zero (pos zero) (pos (suc b)) e = absurd (omega (arith, ints))
squares_zero (pos zero) (negsuc b) e = absurd (omega (arith, ints))
squares_zero (pos (suc a)) b e = absurd (omega (arith, ints, sq_nonneg b))
squares_zero (negsuc a) b e = absurd (omega (arith, ints, sq_nonneg b))

-- fractions a/b and c/d with positive denominators: a/b ≤ c/d is a·d ≤ c·b

pub frac_trans : (a c e : ℤ) {b d f : ℤ} → pos 0 <ℤ b → pos 0 <ℤ d → pos 0 <ℤ f → (a *ℤ d) ≤ℤ (c *ℤ b) → (c *ℤ f) ≤ℤ (e *ℤ d) → (a *ℤ f) ≤ℤ (e *ℤ b)
frac_trans a c e {b} {d} {f} hb hd hf p q =
    le_by_mul hd (add_nonneg (mul_nonneg (nonneg_diff p) (le_of_lt hf)) (mul_nonneg (nonneg_diff q) (le_of_lt hb)))
    (ring6 (λ a b c d e f. d ⊗ (e ⊗ b ⊖ a ⊗ f) ≐ (c ⊗ b ⊖ a ⊗ d) ⊗ f ⊕ (e ⊗ d ⊖ c ⊗ f) ⊗ b) refl a b c d e f)

pub frac_lt_trans : (a c e : ℤ) {b d f : ℤ} → pos 0 <ℤ b → pos 0 <ℤ d → pos 0 <ℤ f → (a *ℤ d) <ℤ (c *ℤ b) → (c *ℤ f) ≤ℤ (e *ℤ d) → (a *ℤ f) <ℤ (e *ℤ b)
frac_lt_trans a c e {b} {d} {f} hb hd hf p q =
    lt_by_mul (le_of_lt hd) (add_pos (mul_pos (pos_diff p) hf) (mul_nonneg (nonneg_diff q) (le_of_lt hb)))
    (ring6 (λ a b c d e f. d ⊗ (e ⊗ b ⊖ a ⊗ f) ≐ (c ⊗ b ⊖ a ⊗ d) ⊗ f ⊕ (e ⊗ d ⊖ c ⊗ f) ⊗ b) refl a b c d e f)

pub frac_same_trans : (a b c e f : ℤ) {d : ℤ} → pos 0 <ℤ d → a *ℤ d ≡ c *ℤ b → c *ℤ f ≡ e *ℤ d → a *ℤ f ≡ e *ℤ b
frac_same_trans a b c e f {d} hd p q =
    eq_by_mul hd (ap (λ (x : ℤ). x *ℤ f +ℤ (e *ℤ d -ℤ c *ℤ f) *ℤ b) (zero_diff p) ∙ ap (λ (x : ℤ). pos 0 *ℤ f +ℤ x *ℤ b) (zero_diff q) ∙ ring2 (λ f b. num 0 ⊗ f ⊕ num 0 ⊗ b ≐ num 0) refl f b)
    (ring6 (λ a b c d e f. d ⊗ (e ⊗ b ⊖ a ⊗ f) ≐ (c ⊗ b ⊖ a ⊗ d) ⊗ f ⊕ (e ⊗ d ⊖ c ⊗ f) ⊗ b) refl a b c d e f)

pub frac_total : (a b c d : ℤ) → ((a *ℤ d) ≤ℤ (c *ℤ b)) ⊎ ((c *ℤ b) ≤ℤ (a *ℤ d))
frac_total a b c d = total (a *ℤ d) (c *ℤ b)

-- a common factor of numerator and denominator changes nothing: (g·a)/(g·b) = a/b
pub frac_reduced : (g a b : ℤ) → (g *ℤ a) *ℤ b ≡ a *ℤ (g *ℤ b)
frac_reduced = ring3 (λ g a b. (g ⊗ a) ⊗ b ≐ a ⊗ (g ⊗ b)) refl

-- equations among the hypotheses: a ≡ b counts as 0 ≤ c · (b - a), for any c, in a sum of what is not negative
pub nonneg_eq : (c : ℤ) {a b : ℤ} → a ≡ b → pos 0 ≤ℤ (c *ℤ (b -ℤ a))
nonneg_eq c {a} {b} e = le_of_eq (sym (ap (λ (x : ℤ). c *ℤ x) (zero_diff e) ∙ *ℤ-zero c))

-- the goal is c times one equation, or c times one and d times another
pub eq_from : (c : ℤ) {a b l r : ℤ} → a ≡ b → r -ℤ l ≡ c *ℤ (b -ℤ a) → l ≡ r
eq_from c {a} {b} {l} {r} e i = eq_by (ap (λ (x : ℤ). c *ℤ x) (zero_diff e) ∙ *ℤ-zero c) i

pub eq_from2 : (c d : ℤ) {a b a' b' l r : ℤ} → a ≡ b → a' ≡ b' → r -ℤ l ≡ c *ℤ (b -ℤ a) +ℤ d *ℤ (b' -ℤ a') → l ≡ r
eq_from2 c d {a} {b} {a'} {b'} {l} {r} e f i = eq_by (ap (λ (x : ℤ). c *ℤ x +ℤ d *ℤ (b' -ℤ a')) (zero_diff e) ∙ ap (λ (x : ℤ). c *ℤ pos 0 +ℤ d *ℤ x) (zero_diff f) ∙ ring2 (λ c d. c ⊗ num 0 ⊕ d ⊗ num 0 ≐ num 0) refl c d) i

-- natural numbers: at `pos a` sums and products of whole numbers compute to those of natural numbers
pub nat_by : {a b : ℕ} → pos a ≡ pos b → a ≡ b
nat_by e = ap nat_abs e

-- the tests of order as Bool, both ways

pub le_z_out : {a b : ℤ} → le_z a b ≡ true → a ≤ℤ b
le_z_out e = record { le = subst T (sym e) tt }

test_true : (b : Bool) → T b → b ≡ true
test_true true t = refl
test_true false t = absurd t

pub le_z_in : {a b : ℤ} → a ≤ℤ b → le_z a b ≡ true
le_z_in {a} {b} h = test_true (le_z a b) h.le

pub le_z_false : {a b : ℤ} → le_z a b ≡ false → b <ℤ a
le_z_false {a} {b} e = by_lt_z b a (λ l. l) (λ l. absurd (both_ways (le_z a b) e (le_z_in l)))

pub le_z_not : {a b : ℤ} → b <ℤ a → le_z a b ≡ false
le_z_not {a} {b} h = ⊎_elim (λ e. clash_ℤ h (le_z_out e)) (λ e. e) (cases_Bool (le_z a b))

pub lt_z_out : {a b : ℤ} → lt_z a b ≡ true → a <ℤ b
lt_z_out e = record { lt = subst T (sym e) tt }

pub lt_z_in : {a b : ℤ} → a <ℤ b → lt_z a b ≡ true
lt_z_in {a} {b} h = test_true (lt_z a b) h.lt

pub lt_z_false : {a b : ℤ} → lt_z a b ≡ false → b ≤ℤ a
lt_z_false {a} {b} e = by_lt_z a b (λ l. absurd (both_ways (lt_z a b) e (lt_z_in l))) (λ l. l)

pub lt_z_not : {a b : ℤ} → b ≤ℤ a → lt_z a b ≡ false
lt_z_not {a} {b} h = ⊎_elim (λ e. clash_ℤ (lt_z_out e) h) (λ e. e) (cases_Bool (lt_z a b))
