-- Any four points have a linear dependency with a coefficient that is not zero.
use Rattle.std.proofs.Common.{◌≡◌, ℤ, pos, ◌+ℤ◌, ◌-ℤ◌, ◌*ℤ◌, neg_ℤ, refl, ◌∙◌, arith}
use Rattle.algebra.specs.Point.{Point}
use Rattle.algebra.proofs.Ring.{num, ◌⊕◌, ◌⊖◌, ◌⊗◌, ⊝, ◌≐◌, ring3, ring5, ring6, ring7, ring11}
use Rattle.algebra.proofs.Order.{lin}
use Rattle.algebra.proofs.Signs.{by_zero, zero_of, neg_zero}
use Rattle.algebra.proofs.Convex.{gapX, gapY}

-- three directions

record DependentDirections (a1 a2 a3 b1 b2 b3 : ℤ) : Type 0 where
  m1 : ℤ
  m2 : ℤ
  m3 : ℤ
  over_a : m1 *ℤ a1 +ℤ m2 *ℤ a2 +ℤ m3 *ℤ a3 ≡ pos 0
  over_b : m1 *ℤ b1 +ℤ m2 *ℤ b2 +ℤ m3 *ℤ b3 ≡ pos 0
  some : m1 ≡ pos 0 → m2 ≡ pos 0 → m3 ≡ pos 0 → ⊥

one_zero : pos 1 ≡ pos 0 → ⊥
one_zero e = omega (arith, lin)

dependent_directions : (a1 a2 a3 b1 b2 b3 : ℤ) → DependentDirections a1 a2 a3 b1 b2 b3
dependent_directions a1 a2 a3 b1 b2 b3 =
    by_zero (a2 *ℤ b3 -ℤ a3 *ℤ b2) (λ z1. by_zero (a3 *ℤ b1 -ℤ a1 *ℤ b3) (λ z2. by_zero (a1 *ℤ b2 -ℤ a2 *ℤ b1) level (λ n. cross (λ _ _ e. n e))) (λ n. cross (λ _ e _. n e))) (λ n. cross (λ e _ _. n e))
  where
    cross : (a2 *ℤ b3 -ℤ a3 *ℤ b2 ≡ pos 0 → a3 *ℤ b1 -ℤ a1 *ℤ b3 ≡ pos 0 → a1 *ℤ b2 -ℤ a2 *ℤ b1 ≡ pos 0 → ⊥) → DependentDirections a1 a2 a3 b1 b2 b3
    cross n = record {
      m1 = a2 *ℤ b3 -ℤ a3 *ℤ b2;
      m2 = a3 *ℤ b1 -ℤ a1 *ℤ b3;
      m3 = a1 *ℤ b2 -ℤ a2 *ℤ b1;
      over_a = ring6 (λ a1 a2 a3 b1 b2 b3. (a2 ⊗ b3 ⊖ a3 ⊗ b2) ⊗ a1 ⊕ (a3 ⊗ b1 ⊖ a1 ⊗ b3) ⊗ a2 ⊕ (a1 ⊗ b2 ⊖ a2 ⊗ b1) ⊗ a3 ≐ num 0) refl a1 a2 a3 b1 b2 b3;
      over_b = ring6 (λ a1 a2 a3 b1 b2 b3. (a2 ⊗ b3 ⊖ a3 ⊗ b2) ⊗ b1 ⊕ (a3 ⊗ b1 ⊖ a1 ⊗ b3) ⊗ b2 ⊕ (a1 ⊗ b2 ⊖ a2 ⊗ b1) ⊗ b3 ≐ num 0) refl a1 a2 a3 b1 b2 b3;
      some = n;
    }

    level : a1 *ℤ b2 -ℤ a2 *ℤ b1 ≡ pos 0 → DependentDirections a1 a2 a3 b1 b2 b3
    level e = by_zero a1 (λ p1. by_zero a2 (λ p2. by_zero b1 (λ q1. by_zero b2 (λ q2. alone p1 q1) (λ n. from_b (λ z _. n z))) (λ n. from_b (λ _ z. n z))) (λ n. from_a (λ z _. n z))) (λ n. from_a (λ _ z. n z))
      where
        from_a : (a2 ≡ pos 0 → a1 ≡ pos 0 → ⊥) → DependentDirections a1 a2 a3 b1 b2 b3
        from_a n = record {
          m1 = neg_ℤ a2;
          m2 = a1;
          m3 = pos 0;
          over_a = ring3 (λ a1 a2 a3. ⊝ a2 ⊗ a1 ⊕ a1 ⊗ a2 ⊕ num 0 ⊗ a3 ≐ num 0) refl a1 a2 a3;
          over_b = ring5 (λ a1 a2 b1 b2 b3. ⊝ a2 ⊗ b1 ⊕ a1 ⊗ b2 ⊕ num 0 ⊗ b3 ≐ a1 ⊗ b2 ⊖ a2 ⊗ b1) refl a1 a2 b1 b2 b3 ∙ e;
          some = λ p q _. n (neg_zero p) q;
        }

        from_b : (b2 ≡ pos 0 → b1 ≡ pos 0 → ⊥) → DependentDirections a1 a2 a3 b1 b2 b3
        from_b n = record {
          m1 = b2;
          m2 = neg_ℤ b1;
          m3 = pos 0;
          over_a = ring5 (λ a1 a2 a3 b1 b2. b2 ⊗ a1 ⊕ ⊝ b1 ⊗ a2 ⊕ num 0 ⊗ a3 ≐ a1 ⊗ b2 ⊖ a2 ⊗ b1) refl a1 a2 a3 b1 b2 ∙ e;
          over_b = ring3 (λ b1 b2 b3. b2 ⊗ b1 ⊕ ⊝ b1 ⊗ b2 ⊕ num 0 ⊗ b3 ≐ num 0) refl b1 b2 b3;
          some = λ p q _. n p (neg_zero q);
        }

        alone : a1 ≡ pos 0 → b1 ≡ pos 0 → DependentDirections a1 a2 a3 b1 b2 b3
        alone p q = record {
          m1 = pos 1;
          m2 = pos 0;
          m3 = pos 0;
          over_a = ring3 (λ a1 a2 a3. num 1 ⊗ a1 ⊕ num 0 ⊗ a2 ⊕ num 0 ⊗ a3 ≐ a1) refl a1 a2 a3 ∙ p;
          over_b = ring3 (λ b1 b2 b3. num 1 ⊗ b1 ⊕ num 0 ⊗ b2 ⊕ num 0 ⊗ b3 ≐ b1) refl b1 b2 b3 ∙ q;
          some = λ e _ _. one_zero e;
        }

-- four points: that of the directions from the first to the others

pub record DependentPoints (p1 p2 p3 p4 : Point) : Type 0 where
  pub l1 : ℤ
  pub l2 : ℤ
  pub l3 : ℤ
  pub l4 : ℤ
  pub over_X : l1 *ℤ p1.X +ℤ l2 *ℤ p2.X +ℤ l3 *ℤ p3.X +ℤ l4 *ℤ p4.X ≡ pos 0
  pub over_Y : l1 *ℤ p1.Y +ℤ l2 *ℤ p2.Y +ℤ l3 *ℤ p3.Y +ℤ l4 *ℤ p4.Y ≡ pos 0
  pub over_D : l1 *ℤ p1.D +ℤ l2 *ℤ p2.D +ℤ l3 *ℤ p3.D +ℤ l4 *ℤ p4.D ≡ pos 0
  pub some : l1 ≡ pos 0 → l2 ≡ pos 0 → l3 ≡ pos 0 → l4 ≡ pos 0 → ⊥

pub dependent_points : (p1 p2 p3 p4 : Point) → DependentPoints p1 p2 p3 p4
dependent_points p1 p2 p3 p4 = from (dependent_directions (gapX p1 p2) (gapX p1 p3) (gapX p1 p4) (gapY p1 p2) (gapY p1 p3) (gapY p1 p4))
  where
    across : (x1 x2 x3 x4 d1 d2 d3 d4 m2 m3 m4 : ℤ) → neg_ℤ (m2 *ℤ d2 +ℤ m3 *ℤ d3 +ℤ m4 *ℤ d4) *ℤ x1 +ℤ d1 *ℤ m2 *ℤ x2 +ℤ d1 *ℤ m3 *ℤ x3 +ℤ d1 *ℤ m4 *ℤ x4 ≡ m2 *ℤ (d1 *ℤ x2 -ℤ d2 *ℤ x1) +ℤ m3 *ℤ (d1 *ℤ x3 -ℤ d3 *ℤ x1) +ℤ m4 *ℤ (d1 *ℤ x4 -ℤ d4 *ℤ x1)
    across = ring11 (λ x1 x2 x3 x4 d1 d2 d3 d4 m2 m3 m4. ⊝ (m2 ⊗ d2 ⊕ m3 ⊗ d3 ⊕ m4 ⊗ d4) ⊗ x1 ⊕ d1 ⊗ m2 ⊗ x2 ⊕ d1 ⊗ m3 ⊗ x3 ⊕ d1 ⊗ m4 ⊗ x4 ≐ m2 ⊗ (d1 ⊗ x2 ⊖ d2 ⊗ x1) ⊕ m3 ⊗ (d1 ⊗ x3 ⊖ d3 ⊗ x1) ⊕ m4 ⊗ (d1 ⊗ x4 ⊖ d4 ⊗ x1)) refl

    from : DependentDirections (gapX p1 p2) (gapX p1 p3) (gapX p1 p4) (gapY p1 p2) (gapY p1 p3) (gapY p1 p4) → DependentPoints p1 p2 p3 p4
    from t = record {
      l1 = neg_ℤ (t.m1 *ℤ p2.D +ℤ t.m2 *ℤ p3.D +ℤ t.m3 *ℤ p4.D);
      l2 = p1.D *ℤ t.m1;
      l3 = p1.D *ℤ t.m2;
      l4 = p1.D *ℤ t.m3;
      over_X = across p1.X p2.X p3.X p4.X p1.D p2.D p3.D p4.D t.m1 t.m2 t.m3 ∙ t.over_a;
      over_Y = across p1.Y p2.Y p3.Y p4.Y p1.D p2.D p3.D p4.D t.m1 t.m2 t.m3 ∙ t.over_b;
      over_D = ring7 (λ d1 d2 d3 d4 m2 m3 m4. ⊝ (m2 ⊗ d2 ⊕ m3 ⊗ d3 ⊕ m4 ⊗ d4) ⊗ d1 ⊕ d1 ⊗ m2 ⊗ d2 ⊕ d1 ⊗ m3 ⊗ d3 ⊕ d1 ⊗ m4 ⊗ d4 ≐ num 0) refl p1.D p2.D p3.D p4.D t.m1 t.m2 t.m3;
      some = λ _ e2 e3 e4. t.some (zero_of p1.positive refl e2) (zero_of p1.positive refl e3) (zero_of p1.positive refl e4);
    }
