-- Lowest terms by a place with d above 0.
use Rattle.std.proofs.Common.{◌≡◌, ℤ, pos, ◌*ℤ◌, ◌<ℤ◌, sym, refl, ap, ◌∙◌, w64, to_z, of_z}
use Rattle.algebra.specs.Small.{Small}
use Rattle.algebra.proofs.Computed.{val_of}
use Rattle.algebra.proofs.Ring.{◌⊗◌, ◌≐◌, ring3}
use Rattle.algebra.proofs.Order.{cancel_eq}
use Rattle.lowest.specs.Reduced.{LowestTerms}

-- a number, as the code reads it
abbrev pub read : ℤ → ℤ
read z = to_z w64 (of_z w64 z)

-- v over d is n over m, where it is u over k and that is n over m
ratio : (v d u k n m : ℤ) → pos 0 <ℤ k → v *ℤ k ≡ u *ℤ d → u *ℤ m ≡ n *ℤ k → v *ℤ m ≡ n *ℤ d
ratio v d u k n m l e f = cancel_eq l
    (ring3 (λ v m k. v ⊗ m ⊗ k ≐ v ⊗ k ⊗ m) refl v m k ∙ ap (λ (z : ℤ). z *ℤ m) e
    ∙ ring3 (λ u d m. u ⊗ d ⊗ m ≐ u ⊗ m ⊗ d) refl u d m ∙ ap (λ (z : ℤ). z *ℤ d) f
    ∙ ring3 (λ n k d. n ⊗ k ⊗ d ≐ n ⊗ d ⊗ k) refl n k d)

-- the lowest terms of the same place with d above 0 are its own
pub lowest_upward : {x y d u v k : ℤ} → Small 100000000000000 u → Small 100000000000000 v → Small 100000000000000 k → pos 0 <ℤ k → u *ℤ d ≡ x *ℤ k → v *ℤ d ≡ y *ℤ k → {a b c : ℤ} → LowestTerms (read u) (read v) (read k) a b c → LowestTerms x y d a b c
lowest_upward {x} {y} {d} {u} {v} {k} su sv sk up e f {a} {b} {c} l = record {
  same_x = ratio a c u k x d up (own a l.same_x (val_of w64 sk tt).is (val_of w64 su tt).is) e;
  same_y = ratio b c v k y d up (own b l.same_y (val_of w64 sk tt).is (val_of w64 sv tt).is) f;
  reduced = l.reduced;
}
  where
    own : (n : ℤ) {k u k' u' : ℤ} → n *ℤ k ≡ u *ℤ c → k ≡ k' → u ≡ u' → n *ℤ k' ≡ u' *ℤ c
    own n e f g = sym (ap (λ (z : ℤ). n *ℤ z) f) ∙ e ∙ ap (λ (z : ℤ). z *ℤ c) g
