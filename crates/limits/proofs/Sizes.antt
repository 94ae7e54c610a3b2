-- The test that a number is within a bound of 0, as a bound on its size.
use Rattle.std.proofs.Common.{◌≡◌, ℕ, ◌≤◌, true, ℤ, pos, neg_ℤ, nat_abs, ◌≤ℤ◌, ◌∙◌, arith}
use borrow.Author.Differences.{abs_is}
use Rattle.std.proofs.lemmas.Int.{ints}
use Rattle.std.proofs.lemmas.Bool.{and_from, and_parts}
use lib.Signed.{le_z}
use Rattle.algebra.specs.Small.{Small}
use Rattle.algebra.proofs.Order.{le_z_in, le_z_out}
use Rattle.algebra.proofs.Computed.{Val, small_by, small_more, val_small}
use Rattle.rows.specs.Range.{within}

pub within_small : (n : ℕ) (z : ℤ) → within n z ≡ true → Small n z
within_small n z e =
    let p = and_parts (le_z (neg_ℤ (pos n)) z) (le_z z (pos n)) e in
    small_by n (le_z_out p.0) (le_z_out p.1)

pub small_within : (n : ℕ) (z : ℤ) → Small n z → within n z ≡ true
small_within n z s =
    let a : nat_abs z ≤ n = s.small in
    let l : neg_ℤ (pos n) ≤ℤ z = omega (arith, ints, abs_is z) in
    let h : z ≤ℤ pos n = omega (arith, ints, abs_is z) in
    and_from (le_z (neg_ℤ (pos n)) z) (le_z z (pos n)) (le_z_in l) (le_z_in h)

-- what code computes is within a bound of its size
pub computed_within : (m : ℕ) {n : ℕ} {x z : ℤ} → n ≤ m → Val n x z → within m x ≡ true
computed_within m {x} l h = small_within m x (small_more m (val_small h) l)

-- a result that is what the code computes
pub val_after : {n : ℕ} {w x z : ℤ} → w ≡ x → Val n x z → Val n w z
val_after e h = record { is = e ∙ h.is; size = h.size }
