-- Common divisors: a number over one of its divisors, and three numbers over their greatest common divisor.
use Rattle.std.proofs.Common.{◌≡◌, ℕ, zero, suc, ◌*◌, ◌/◌, ◌<◌, ◌≤◌, ℤ, pos, negsuc, ◌+ℤ◌, ◌-ℤ◌, ◌*ℤ◌, neg_ℤ, nat_abs, ◌<ℤ◌, sym, refl, ap, ◌∙◌, subst, one-mul, zero-mul, arith}
use Prim.Native.Nat.{◌∣◌}
use native.Mathlib.Nat.{dvd_trans, mul-dvd-mul_right, dvd_of_mul-dvd-mul_right, le_of_dvd, pos_of_dvd_of_pos, div-mul_cancel}
use borrow.Author.Differences.{abs_is}
use lib.Signed.{quot_z}
use Rattle.std.proofs.lemmas.Int.{ints}
use Rattle.algebra.proofs.Ring.{◌⊕◌, ◌⊖◌, ◌⊗◌, ⊝, ◌≐◌, ring2, ring5}
use Rattle.algebra.proofs.Order.{eq_from2}
use Rattle.algebra.proofs.Signs.{pos_of}
use Rattle.algebra.proofs.Computed.{abs_mul}
use Rattle.std.specs.Int.{IsGcd}
use Rattle.lowest.specs.Reduced.{Divisor, LowestTerms}

-- the quotient by a divisor

negative : (q b a : ℕ) → q * b ≡ suc a → neg_ℤ (pos q) *ℤ pos b ≡ negsuc a
negative zero b a e = absurd (omega (arith, zero-mul b))
negative (suc q) b a e = ap (λ (n : ℕ). neg_ℤ (pos n)) e

pub quotient_exact : (n g : ℤ) → pos 0 <ℤ g → nat_abs g ∣ nat_abs n → quot_z n g *ℤ g ≡ n
quotient_exact (pos a) (pos b) p d = ap pos (div-mul_cancel b d)
quotient_exact (negsuc a) (pos b) p d = negative (suc a / b) b a (div-mul_cancel b d)
quotient_exact (pos a) (negsuc b) p d = absurd p.lt
quotient_exact (negsuc a) (negsuc b) p d = absurd p.lt

-- three numbers and their greatest common divisor

abs_pos : (d : ℤ) → pos 0 <ℤ d → 0 < nat_abs d
abs_pos d h = omega (arith, ints, abs_is d)

pos_lift : (g : ℕ) → 0 < g → pos 0 <ℤ pos g
pos_lift g h = omega (arith, ints)

pub divisor_small : (d : ℤ) (m g : ℕ) → pos 0 <ℤ d → IsGcd m (nat_abs d) g → g ≤ nat_abs d
divisor_small d m g p j = le_of_dvd (abs_pos d p) j.1

pub divisor_of : (x y d : ℤ) (m g : ℕ) → pos 0 <ℤ d → IsGcd (nat_abs x) (nat_abs y) m → IsGcd m (nat_abs d) g → Divisor x y d (pos g)
divisor_of x y d m g p i j = record {
  above = pos_lift g (pos_of_dvd_of_pos j.1 (abs_pos d p));
  of_x = dvd_trans g j.0 i.0;
  of_y = dvd_trans g j.0 i.1;
  of_d = j.1;
  greatest = λ k hx hy hd. j.2 k (i.2 k hx hy) hd;
}

-- a common divisor of the quotients is 1

module _ (x y d g x' y' d' : ℤ) (p : pos 0 <ℤ d) (i : Divisor x y d g) (ex : x' *ℤ g ≡ x) (ey : y' *ℤ g ≡ y) (ed : d' *ℤ g ≡ d) where
  product : (k : ℕ) (n n' : ℤ) → n' *ℤ g ≡ n → k ∣ nat_abs n' → k * nat_abs g ∣ nat_abs n
  product k n n' e h = subst (λ (z : ℕ). k * nat_abs g ∣ z) (sym (abs_mul n' g) ∙ ap nat_abs e) (mul-dvd-mul_right k h (nat_abs g))

  coprime : (k : ℕ) → k ∣ nat_abs x' → k ∣ nat_abs y' → k ∣ nat_abs d' → k ≤ 1
  coprime k hx hy hd =
      let all = i.greatest (k * nat_abs g) (product k x x' ex hx) (product k y y' ey hy) (product k d d' ed hd) in
      let one : k * nat_abs g ∣ 1 * nat_abs g = subst (λ (z : ℕ). k * nat_abs g ∣ z) (sym (one-mul (nat_abs g))) all in
      le_of_dvd (omega arith) (dvd_of_mul-dvd-mul_right k (abs_pos g i.above) one)

  ring_cross : (n n' d d' g : ℤ) → n *ℤ d' -ℤ n' *ℤ d ≡ neg_ℤ n' *ℤ (d -ℤ d' *ℤ g) +ℤ d' *ℤ (n -ℤ n' *ℤ g)
  ring_cross = ring5 (λ n n' d d' g. n ⊗ d' ⊖ n' ⊗ d ≐ ⊝ n' ⊗ (d ⊖ d' ⊗ g) ⊕ d' ⊗ (n ⊖ n' ⊗ g)) refl

  cross : (n n' : ℤ) → n' *ℤ g ≡ n → n' *ℤ d ≡ n *ℤ d'
  cross n n' e = eq_from2 (neg_ℤ n') d' ed e (ring_cross n n' d d' g)

  pub lowest_terms : LowestTerms x y d x' y' d'
  lowest_terms = record {
    same_x = cross x x' ex;
    same_y = cross y y' ey;
    reduced = record { positive = pos_of i.above (ring2 (λ a b. b ⊗ a ≐ a ⊗ b) refl d' g ∙ ed) p; coprime = coprime };
  }
