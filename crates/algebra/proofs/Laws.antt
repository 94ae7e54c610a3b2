-- Whole numbers as a commutative ring: associativity of the product, distributivity, one and signs.
use Rattle.std.proofs.Common.{◌≡◌, ℕ, ◌*◌, ℤ, pos, negsuc, ◌+ℤ◌, ◌*ℤ◌, neg_ℤ, ap, ◌∙◌, arith}
use borrow.Author.Differences.{up, down, same_in, sum_is_lem, product_is, neg_is}
use lib.IntN.{*ℤ_comm, *ℤ-one, one}

pub *-assoc : (a b c : ℤ) → (a *ℤ b) *ℤ c ≡ a *ℤ (b *ℤ c)
*-assoc a b c = same_in _ _ (omega (
  arith,
  product_is (a *ℤ b) c,
  product_is a (b *ℤ c),
  ap (λ (x : ℕ). x * up c) (product_is a b).0,
  ap (λ (x : ℕ). x * up c) (product_is a b).1,
  ap (λ (x : ℕ). x * down c) (product_is a b).0,
  ap (λ (x : ℕ). x * down c) (product_is a b).1,
  ap (λ (x : ℕ). up a * x) (product_is b c).0,
  ap (λ (x : ℕ). up a * x) (product_is b c).1,
  ap (λ (x : ℕ). down a * x) (product_is b c).0,
  ap (λ (x : ℕ). down a * x) (product_is b c).1,
))

pub *-distl : (a b c : ℤ) → a *ℤ (b +ℤ c) ≡ a *ℤ b +ℤ a *ℤ c
*-distl a b c = same_in _ _ (omega (
  arith,
  product_is a (b +ℤ c),
  product_is a b,
  product_is a c,
  sum_is_lem (a *ℤ b) (a *ℤ c),
  ap (λ (x : ℕ). up a * x) (sum_is_lem b c),
  ap (λ (x : ℕ). down a * x) (sum_is_lem b c),
))

pub *-distr : (a b c : ℤ) → (a +ℤ b) *ℤ c ≡ a *ℤ c +ℤ b *ℤ c
*-distr a b c = *ℤ_comm (a +ℤ b) c ∙ *-distl c a b ∙ ap (λ (x : ℤ). x +ℤ c *ℤ b) (*ℤ_comm c a) ∙ ap (λ (x : ℤ). a *ℤ c +ℤ x) (*ℤ_comm c b)

pub one-* : (a : ℤ) → pos 1 *ℤ a ≡ a
unfolding one
one-* a = *ℤ_comm (pos 1) a ∙ *ℤ-one a

pub *-one : (a : ℤ) → a *ℤ pos 1 ≡ a
unfolding one
*-one a = *ℤ-one a

pub neg_is_mul : (a : ℤ) → negsuc 0 *ℤ a ≡ neg_ℤ a
neg_is_mul a = same_in _ _ (omega (arith, product_is (negsuc 0) a, neg_is a))
