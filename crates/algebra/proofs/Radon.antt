-- Radon's theorem in the plane: for any four points there is one that lies in every convex set that holds three of them.
use Rattle.std.proofs.Common.{◌≡◌, suc, ◌⊎◌, ℤ, pos, negsuc, ◌+ℤ◌, ◌-ℤ◌, ◌*ℤ◌, neg_ℤ, ◌≤ℤ◌, ◌<ℤ◌, sym, refl, subst, inl, inr, ⊎_elim, arith}
use mathlib.Core.Path.{subst₃}
use Rattle.std.proofs.lemmas.Int.{ints, by_lt_z}
use lib.Dec.{T_prop}
use lib.Signed.{lt_z, clash_ℤ, <ℤ_irrefl, ≤ℤ_refl}
use Rattle.algebra.specs.Point.{Point}
use Rattle.algebra.proofs.Ring.{num, lit, ◌⊕◌, ◌⊖◌, ◌⊗◌, ⊝, ◌≐◌, ring3, ring12}
use Rattle.algebra.proofs.Order.{lin, eq_from, mul_pos, mul_nonneg, add_pos, le_of_lt}
use Rattle.algebra.proofs.Signs.{suc_pos, by_sign}
use Rattle.algebra.proofs.Convex.{scaled, Convex}
use Rattle.algebra.proofs.Dependency.{DependentPoints, dependent_points}

-- a number as the difference of two that are not negative, one of them 0

abbrev positive_part : ℤ → ℤ
positive_part (pos n) = pos n
positive_part (negsuc n) = pos 0

abbrev negative_part : ℤ → ℤ
negative_part (pos n) = pos 0
negative_part (negsuc n) = pos (suc n)

parts : (l : ℤ) → l ≡ positive_part l -ℤ negative_part l
parts (pos n) = omega (arith, ints)
parts (negsuc n) = omega (arith, ints)

positive_part_nonneg : (l : ℤ) → pos 0 ≤ℤ positive_part l
positive_part_nonneg (pos n) = omega (arith, ints)
positive_part_nonneg (negsuc n) = ≤ℤ_refl (pos 0)

negative_part_nonneg : (l : ℤ) → pos 0 ≤ℤ negative_part l
negative_part_nonneg (pos n) = ≤ℤ_refl (pos 0)
negative_part_nonneg (negsuc n) = le_of_lt (suc_pos n)

one_side : (l : ℤ) → (pos 0 <ℤ positive_part l → ⊥) ⊎ (pos 0 <ℤ negative_part l → ⊥)
one_side (pos n) = inr <ℤ_irrefl
one_side (negsuc n) = inl <ℤ_irrefl

both_zero : (l : ℤ) → positive_part l ≡ pos 0 → negative_part l ≡ pos 0 → l ≡ pos 0
both_zero l p q = let e = parts l in omega (arith, lin)

-- sums of multiples of points of a convex set: all zeros, or a point of the set

lt_prop : {a b : ℤ} (h i : a <ℤ b) → h ≡ i
lt_prop {a} {b} h i = λ j. record { lt = T_prop (lt_z a b) h.lt i.lt j }

abbrev pt : (x y d : ℤ) → pos 0 <ℤ d → Point
pt x y d h = record { X = x; Y = y; D = d; positive = h }

abbrev Inside : (Point → Type 0) → ℤ → ℤ → ℤ → Type 0
Inside C x y d = (h : pos 0 <ℤ d) × C (pt x y d h)

-- three zeros, or a point of the set
abbrev OriginOr : (Point → Type 0) → ℤ → ℤ → ℤ → Type 0
OriginOr C x y d = ((x ≡ pos 0) × (y ≡ pos 0) × (d ≡ pos 0)) ⊎ Inside C x y d

adding : (C : Point → Type 0) → Convex C → (x y d k : ℤ) (p : Point) → OriginOr C x y d → pos 0 ≤ℤ k → (pos 0 <ℤ k → C p) → OriginOr C (x +ℤ k *ℤ p.X) (y +ℤ k *ℤ p.Y) (d +ℤ k *ℤ p.D)
adding C v x y d k p t h f = by_sign k
    (λ up. go up t)
    (λ e. subst₃ (OriginOr C) (same x p.X e) (same y p.Y e) (same d p.D e) t)
    (λ l. clash_ℤ l h)
  where
    same : (x w : ℤ) → k ≡ pos 0 → x ≡ x +ℤ k *ℤ w
    same x w e = eq_from (neg_ℤ w) e (ring3 (λ x w k. (x ⊕ k ⊗ w) ⊖ x ≐ ⊝ w ⊗ (num 0 ⊖ k)) refl x w k)

    onto : (x w : ℤ) → x ≡ pos 0 → k *ℤ w ≡ x +ℤ k *ℤ w
    onto x w e = eq_from (negsuc 0) e (ring3 (λ x w k. (x ⊕ k ⊗ w) ⊖ k ⊗ w ≐ lit (negsuc 0) ⊗ (num 0 ⊖ x)) refl x w k)

    go : pos 0 <ℤ k → OriginOr C x y d → OriginOr C (x +ℤ k *ℤ p.X) (y +ℤ k *ℤ p.Y) (d +ℤ k *ℤ p.D)
    go up (inl z) = inr (subst₃ (Inside C) (onto x p.X z.0) (onto y p.Y z.1) (onto d p.D z.2) (mul_pos up p.positive, v.scale k up p (f up)))
    go up (inr i) = inr (add_pos i.0 (le_of_lt (mul_pos up p.positive)), v.sum (pt x y d i.0) (scaled k up p) i.1 (v.scale k up p (f up)))

abbrev combination : ℤ → ℤ → ℤ → ℤ → ℤ → ℤ → ℤ → ℤ → ℤ
combination k1 k2 k3 k4 x1 x2 x3 x4 = pos 0 +ℤ k1 *ℤ x1 +ℤ k2 *ℤ x2 +ℤ k3 *ℤ x3 +ℤ k4 *ℤ x4

term_zero : {u d : ℤ} → pos 0 ≤ℤ u → pos 0 <ℤ d → (u *ℤ d) ≤ℤ pos 0 → u ≡ pos 0
term_zero {u} {d} h i l = by_sign u (λ up. clash_ℤ (mul_pos up i) l) (λ e. e) (λ k. clash_ℤ k h)

module _ (k1 k2 k3 k4 d1 d2 d3 d4 : ℤ) (h1 : pos 0 ≤ℤ k1) (h2 : pos 0 ≤ℤ k2) (h3 : pos 0 ≤ℤ k3) (h4 : pos 0 ≤ℤ k4) (i1 : pos 0 <ℤ d1) (i2 : pos 0 <ℤ d2) (i3 : pos 0 <ℤ d3) (i4 : pos 0 <ℤ d4) where
  all_zero : combination k1 k2 k3 k4 d1 d2 d3 d4 ≤ℤ pos 0 → (k1 ≡ pos 0) × (k2 ≡ pos 0) × (k3 ≡ pos 0) × (k4 ≡ pos 0)
  all_zero l =
      let t1 = mul_nonneg h1 (le_of_lt i1) in
      let t2 = mul_nonneg h2 (le_of_lt i2) in
      let t3 = mul_nonneg h3 (le_of_lt i3) in
      let t4 = mul_nonneg h4 (le_of_lt i4) in
      let s1 : (k1 *ℤ d1) ≤ℤ pos 0 = omega (arith, lin) in
      let s2 : (k2 *ℤ d2) ≤ℤ pos 0 = omega (arith, lin) in
      let s3 : (k3 *ℤ d3) ≤ℤ pos 0 = omega (arith, lin) in
      let s4 : (k4 *ℤ d4) ≤ℤ pos 0 = omega (arith, lin) in
      (term_zero h1 i1 s1, term_zero h2 i2 s2, term_zero h3 i3 s3, term_zero h4 i4 s4)

-- both sides of a dependency are one point
sides : (l1 l2 l3 l4 x1 x2 x3 x4 : ℤ) → l1 *ℤ x1 +ℤ l2 *ℤ x2 +ℤ l3 *ℤ x3 +ℤ l4 *ℤ x4 ≡ pos 0 → combination (negative_part l1) (negative_part l2) (negative_part l3) (negative_part l4) x1 x2 x3 x4 ≡ combination (positive_part l1) (positive_part l2) (positive_part l3) (positive_part l4) x1 x2 x3 x4
sides l1 l2 l3 l4 x1 x2 x3 x4 e = equal (positive_part l1) (positive_part l2) (positive_part l3) (positive_part l4) (negative_part l1) (negative_part l2) (negative_part l3) (negative_part l4) (apart (parts l1) (parts l2) (parts l3) (parts l4))
  where
    apart : {k1 k2 k3 k4 : ℤ} → l1 ≡ k1 → l2 ≡ k2 → l3 ≡ k3 → l4 ≡ k4 → k1 *ℤ x1 +ℤ k2 *ℤ x2 +ℤ k3 *ℤ x3 +ℤ k4 *ℤ x4 ≡ pos 0
    apart p q r s = cc

    equal : (u1 u2 u3 u4 w1 w2 w3 w4 : ℤ) → (u1 -ℤ w1) *ℤ x1 +ℤ (u2 -ℤ w2) *ℤ x2 +ℤ (u3 -ℤ w3) *ℤ x3 +ℤ (u4 -ℤ w4) *ℤ x4 ≡ pos 0 → combination w1 w2 w3 w4 x1 x2 x3 x4 ≡ combination u1 u2 u3 u4 x1 x2 x3 x4
    equal u1 u2 u3 u4 w1 w2 w3 w4 e = eq_from (negsuc 0) e (ring12 (λ u1 u2 u3 u4 w1 w2 w3 w4 x1 x2 x3 x4. (num 0 ⊕ u1 ⊗ x1 ⊕ u2 ⊗ x2 ⊕ u3 ⊗ x3 ⊕ u4 ⊗ x4) ⊖ (num 0 ⊕ w1 ⊗ x1 ⊕ w2 ⊗ x2 ⊕ w3 ⊗ x3 ⊕ w4 ⊗ x4) ≐ lit (negsuc 0) ⊗ (num 0 ⊖ ((u1 ⊖ w1) ⊗ x1 ⊕ (u2 ⊖ w2) ⊗ x2 ⊕ (u3 ⊖ w3) ⊗ x3 ⊕ (u4 ⊖ w4) ⊗ x4))) refl u1 u2 u3 u4 w1 w2 w3 w4 x1 x2 x3 x4)

-- the point between the four

module _ {A : Type 0} (C : A → Point → Type 0) (v : (x : A) → Convex (C x)) (p1 p2 p3 p4 : Point) where
  pub record BetweenFour : Type 0 where
    pub point : Point
    pub drop1 : (x : A) → C x p2 → C x p3 → C x p4 → C x point
    pub drop2 : (x : A) → C x p1 → C x p3 → C x p4 → C x point
    pub drop3 : (x : A) → C x p1 → C x p2 → C x p4 → C x point
    pub drop4 : (x : A) → C x p1 → C x p2 → C x p3 → C x point

  combined : (x : A) (k1 k2 k3 k4 : ℤ) → pos 0 ≤ℤ k1 → pos 0 ≤ℤ k2 → pos 0 ≤ℤ k3 → pos 0 ≤ℤ k4 → (pos 0 <ℤ k1 → C x p1) → (pos 0 <ℤ k2 → C x p2) → (pos 0 <ℤ k3 → C x p3) → (pos 0 <ℤ k4 → C x p4) → OriginOr (C x) (combination k1 k2 k3 k4 p1.X p2.X p3.X p4.X) (combination k1 k2 k3 k4 p1.Y p2.Y p3.Y p4.Y) (combination k1 k2 k3 k4 p1.D p2.D p3.D p4.D)
  combined x k1 k2 k3 k4 h1 h2 h3 h4 c1 c2 c3 c4 =
      adding (C x) (v x) _ _ _ k4 p4 (adding (C x) (v x) _ _ _ k3 p3 (adding (C x) (v x) _ _ _ k2 p2 (adding (C x) (v x) (pos 0) (pos 0) (pos 0) k1 p1 (inl (refl, refl, refl)) h1 c1) h2 c2) h3 c3) h4 c4

  pub radon : BetweenFour
  radon = from (dependent_points p1 p2 p3 p4)
    where
      from : DependentPoints p1 p2 p3 p4 → BetweenFour
      from b = record {
        point = pt qx qy qd qh;
        drop1 = λ x c2 c3 c4. ⊎_elim (λ n. by_positive x (λ h. absurd (n h)) (λ _. c2) (λ _. c3) (λ _. c4)) (λ n. by_negative x (λ h. absurd (n h)) (λ _. c2) (λ _. c3) (λ _. c4)) (one_side b.l1);
        drop2 = λ x c1 c3 c4. ⊎_elim (λ n. by_positive x (λ _. c1) (λ h. absurd (n h)) (λ _. c3) (λ _. c4)) (λ n. by_negative x (λ _. c1) (λ h. absurd (n h)) (λ _. c3) (λ _. c4)) (one_side b.l2);
        drop3 = λ x c1 c2 c4. ⊎_elim (λ n. by_positive x (λ _. c1) (λ _. c2) (λ h. absurd (n h)) (λ _. c4)) (λ n. by_negative x (λ _. c1) (λ _. c2) (λ h. absurd (n h)) (λ _. c4)) (one_side b.l3);
        drop4 = λ x c1 c2 c3. ⊎_elim (λ n. by_positive x (λ _. c1) (λ _. c2) (λ _. c3) (λ h. absurd (n h))) (λ n. by_negative x (λ _. c1) (λ _. c2) (λ _. c3) (λ h. absurd (n h))) (one_side b.l4);
      }
        where
          qx : ℤ
          qx = combination (positive_part b.l1) (positive_part b.l2) (positive_part b.l3) (positive_part b.l4) p1.X p2.X p3.X p4.X

          qy : ℤ
          qy = combination (positive_part b.l1) (positive_part b.l2) (positive_part b.l3) (positive_part b.l4) p1.Y p2.Y p3.Y p4.Y

          qd : ℤ
          qd = combination (positive_part b.l1) (positive_part b.l2) (positive_part b.l3) (positive_part b.l4) p1.D p2.D p3.D p4.D

          same_d : combination (negative_part b.l1) (negative_part b.l2) (negative_part b.l3) (negative_part b.l4) p1.D p2.D p3.D p4.D ≡ qd
          same_d = sides b.l1 b.l2 b.l3 b.l4 p1.D p2.D p3.D p4.D b.over_D

          qh : pos 0 <ℤ qd
          qh = by_lt_z (pos 0) qd (λ h. h) (λ l.
              let g = all_zero (positive_part b.l1) (positive_part b.l2) (positive_part b.l3) (positive_part b.l4) p1.D p2.D p3.D p4.D (positive_part_nonneg b.l1) (positive_part_nonneg b.l2) (positive_part_nonneg b.l3) (positive_part_nonneg b.l4) p1.positive p2.positive p3.positive p4.positive l in
              let f = all_zero (negative_part b.l1) (negative_part b.l2) (negative_part b.l3) (negative_part b.l4) p1.D p2.D p3.D p4.D (negative_part_nonneg b.l1) (negative_part_nonneg b.l2) (negative_part_nonneg b.l3) (negative_part_nonneg b.l4) p1.positive p2.positive p3.positive p4.positive (subst (λ w. w ≤ℤ pos 0) (sym same_d) l) in
              absurd (b.some (both_zero b.l1 g.0 f.0) (both_zero b.l2 g.1 f.1) (both_zero b.l3 g.2 f.2) (both_zero b.l4 g.3 f.3)))

          there : (x : A) → OriginOr (C x) qx qy qd → C x (pt qx qy qd qh)
          there x (inl z) = absurd (<ℤ_irrefl (subst (λ w. pos 0 <ℤ w) z.2 qh))
          there x (inr i) = subst (λ h. C x (pt qx qy qd h)) (lt_prop i.0 qh) i.1

          by_positive : (x : A) → (pos 0 <ℤ positive_part b.l1 → C x p1) → (pos 0 <ℤ positive_part b.l2 → C x p2) → (pos 0 <ℤ positive_part b.l3 → C x p3) → (pos 0 <ℤ positive_part b.l4 → C x p4) → C x (pt qx qy qd qh)
          by_positive x c1 c2 c3 c4 = there x (combined x (positive_part b.l1) (positive_part b.l2) (positive_part b.l3) (positive_part b.l4) (positive_part_nonneg b.l1) (positive_part_nonneg b.l2) (positive_part_nonneg b.l3) (positive_part_nonneg b.l4) c1 c2 c3 c4)

          by_negative : (x : A) → (pos 0 <ℤ negative_part b.l1 → C x p1) → (pos 0 <ℤ negative_part b.l2 → C x p2) → (pos 0 <ℤ negative_part b.l3 → C x p3) → (pos 0 <ℤ negative_part b.l4 → C x p4) → C x (pt qx qy qd qh)
          by_negative x c1 c2 c3 c4 = there x (subst₃ (OriginOr (C x))
              (sides b.l1 b.l2 b.l3 b.l4 p1.X p2.X p3.X p4.X b.over_X) (sides b.l1 b.l2 b.l3 b.l4 p1.Y p2.Y p3.Y p4.Y b.over_Y) same_d
              (combined x (negative_part b.l1) (negative_part b.l2) (negative_part b.l3) (negative_part b.l4) (negative_part_nonneg b.l1) (negative_part_nonneg b.l2) (negative_part_nonneg b.l3) (negative_part_nonneg b.l4) c1 c2 c3 c4))
