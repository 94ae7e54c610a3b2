-- Three rows with the value of the whole list, by Helly's theorem.
use Rattle.std.proofs.Common.{◌≡◌, ◌≤◌, true, List, [], ◌∷◌, length, ℤ, pos, ◌+ℤ◌, ◌-ℤ◌, ◌*ℤ◌, ◌≤ℤ◌, ◌<ℤ◌, sym, refl, subst, inl, inr, ⊎_elim, le_refl, arith}
use Rattle.std.specs.List.{AllByRecursion}
use Rattle.std.proofs.lemmas.Bool.{false≢true}
use Rattle.rows.specs.declared.row.Constraint.{Constraint}
use Rattle.lptype.specs.Meaning.{Value, finite, top, In, Within, Le, Equal}
use Rattle.lptype.proofs.Inside.{all_in, all_from_in}
use Rattle.algebra.specs.Point.{Point}
use Rattle.algebra.proofs.Ring.{num, ◌⊕◌, ◌⊖◌, ◌⊗◌, ◌≐◌, ring5, ring6, ring7, ring9}
use Rattle.algebra.proofs.Order.{le_of_lt, mul_nonneg, add_nonneg}
use Rattle.algebra.proofs.Convex.{gapX, gapY, scaled, summed, Convex}
use Rattle.algebra.proofs.Helly.{Meet, helly}
use Rattle.limits.specs.Forms.{Form, no_more, Alike}
use Rattle.limits.specs.Crossings.{KeepsEvery, Keeps}
use Rattle.limits.specs.Least.{limits, least_crossing}
use Rattle.limits.proofs.Directions.{up_comb, up_scale, le_up, up_le}
use Rattle.limits.proofs.Moving.{keeps_slack, slack_keeps}
use Rattle.limits.proofs.Rivals.{value_least, value_kept}
use Rattle.limits.proofs.Best.{order}

-- an element of a list whose value is the greatest
greatest : (fs : List Form) {A : Type 0} (f : A → Value Point) (x : A) (xs : List A) → (a : A) × In a (x ∷ xs) × ((b : A) → In b (x ∷ xs) → Le (no_more fs) (f b) (f a))
greatest fs f x [] = (x, inl refl, λ b i. ⊎_elim (λ e. subst (λ y. Le (no_more fs) (f y) (f x)) (sym e) ((order fs).reflexive (f x))) (λ n. absurd n) i)
greatest fs f x (y ∷ ys) =
    let g = greatest fs f y ys in
    ⊎_elim
    (λ l. (g.0, inr g.1, λ b i. ⊎_elim (λ e. subst (λ z. Le (no_more fs) (f z) (f g.0)) (sym e) l) (g.2 b) i))
    (λ l. (x, inl refl, λ b i. ⊎_elim (λ e. subst (λ z. Le (no_more fs) (f z) (f x)) (sym e) ((order fs).reflexive (f x))) (λ j. (order fs).transitive (f b) (f g.0) (f x) (g.2 b j) l) i))
    ((order fs).comparable (f x) (f g.0))

-- the convex sets

scaled_keeps : (k : ℤ) (h : pos 0 <ℤ k) (z : Point) (g : Constraint) → Keeps z g → Keeps (scaled k h z) g
scaled_keeps k h z g p = slack_keeps (scaled k h z) g (subst (λ v. pos 0 ≤ℤ v) (same g.a g.b g.c z.X z.Y z.D k) (mul_nonneg (le_of_lt h) (keeps_slack z g p)))
  where
    same : (a b c x y d k : ℤ) → k *ℤ (c *ℤ d -ℤ (a *ℤ x +ℤ b *ℤ y)) ≡ c *ℤ (k *ℤ d) -ℤ (a *ℤ (k *ℤ x) +ℤ b *ℤ (k *ℤ y))
    same = ring7 (λ a b c x y d k. k ⊗ (c ⊗ d ⊖ (a ⊗ x ⊕ b ⊗ y)) ≐ c ⊗ (k ⊗ d) ⊖ (a ⊗ (k ⊗ x) ⊕ b ⊗ (k ⊗ y))) refl

summed_keeps : (z w : Point) (g : Constraint) → Keeps z g → Keeps w g → Keeps (summed z w) g
summed_keeps z w g p q = slack_keeps (summed z w) g (subst (λ v. pos 0 ≤ℤ v) (same g.a g.b g.c z.X z.Y z.D w.X w.Y w.D) (add_nonneg (keeps_slack z g p) (keeps_slack w g q)))
  where
    same : (a b c x y d x' y' d' : ℤ) → (c *ℤ d -ℤ (a *ℤ x +ℤ b *ℤ y)) +ℤ (c *ℤ d' -ℤ (a *ℤ x' +ℤ b *ℤ y')) ≡ c *ℤ (d +ℤ d') -ℤ (a *ℤ (x +ℤ x') +ℤ b *ℤ (y +ℤ y'))
    same = ring9 (λ a b c x y d x' y' d'. (c ⊗ d ⊖ (a ⊗ x ⊕ b ⊗ y)) ⊕ (c ⊗ d' ⊖ (a ⊗ x' ⊕ b ⊗ y')) ≐ c ⊗ (d ⊕ d') ⊖ (a ⊗ (x ⊕ x') ⊕ b ⊗ (y ⊕ y'))) refl

scaled_le : (fs : List Form) (k : ℤ) (h : pos 0 <ℤ k) (z s : Point) → no_more fs z s ≡ true → no_more fs (scaled k h z) s ≡ true
scaled_le fs k h z s p = up_le fs (scaled k h z) s (up_scale fs k (gapX z s) (gapY z s) (gapX (scaled k h z) s) (gapY (scaled k h z) s) (le_of_lt h) (same k z.X z.D s.X s.D) (same k z.Y z.D s.Y s.D) (le_up fs z s p))
  where
    same : (k x d x' d' : ℤ) → k *ℤ d *ℤ x' -ℤ d' *ℤ (k *ℤ x) ≡ k *ℤ (d *ℤ x' -ℤ d' *ℤ x)
    same = ring5 (λ k x d x' d'. k ⊗ d ⊗ x' ⊖ d' ⊗ (k ⊗ x) ≐ k ⊗ (d ⊗ x' ⊖ d' ⊗ x)) refl

one_above : pos 0 <ℤ pos 1
one_above = record { lt = tt }

summed_le : (fs : List Form) (z w s : Point) → no_more fs z s ≡ true → no_more fs w s ≡ true → no_more fs (summed z w) s ≡ true
summed_le fs z w s p q = up_le fs (summed z w) s (up_comb (pos 1) (pos 1) (pos 1) (gapX z s) (gapY z s) (gapX w s) (gapY w s) (gapX (summed z w) s) (gapY (summed z w) s) one_above one_above one_above
    (same z.X z.D w.X w.D s.X s.D) (same z.Y z.D w.Y w.D s.Y s.D) fs (le_up fs z s p) (le_up fs w s q))
  where
    same : (x d x' d' x'' d'' : ℤ) → pos 1 *ℤ ((d +ℤ d') *ℤ x'' -ℤ d'' *ℤ (x +ℤ x')) ≡ pos 1 *ℤ (d *ℤ x'' -ℤ d'' *ℤ x) +ℤ pos 1 *ℤ (d' *ℤ x'' -ℤ d'' *ℤ x')
    same = ring6 (λ x d x' d' x'' d''. num 1 ⊗ ((d ⊕ d') ⊗ x'' ⊖ d'' ⊗ (x ⊕ x')) ≐ num 1 ⊗ (d ⊗ x'' ⊖ d'' ⊗ x) ⊕ num 1 ⊗ (d' ⊗ x'' ⊖ d'' ⊗ x')) refl

-- keeps the row, lies in the square, and is no larger than s
pub record Near (fs : List Form) (s : Point) (x : Constraint) (z : Point) : Type 0 where
  pub keeps : KeepsEvery z (limits (x ∷ []))
  pub no_larger : no_more fs z s ≡ true

near_convex : (fs : List Form) (s : Point) (x : Constraint) → Convex (Near fs s x)
near_convex fs s x = record {
  scale = λ k h z n. record { keeps = λ g i. scaled_keeps k h z g (n.keeps g i); no_larger = scaled_le fs k h z s n.no_larger };
  sum = λ z w n p. record { keeps = λ g i. summed_keeps z w g (n.keeps g i) (p.keeps g i); no_larger = summed_le fs z w s n.no_larger p.no_larger };
}

-- limits of lists

pub fewer_limits : (F G : List Constraint) → Within F G → (g : Constraint) → In g (limits F) → In g (limits G)
fewer_limits F G w g (inl e) = inl e
fewer_limits F G w g (inr (inl e)) = inr (inl e)
fewer_limits F G w g (inr (inr (inl e))) = inr (inr (inl e))
fewer_limits F G w g (inr (inr (inr (inl e)))) = inr (inr (inr (inl e)))
fewer_limits F G w g (inr (inr (inr (inr i)))) = inr (inr (inr (inr (w g i))))

one_limit : (z : Point) (x : Constraint) (F' : List Constraint) → ((y : Constraint) → In y (x ∷ F') → KeepsEvery z (limits (y ∷ []))) → KeepsEvery z (limits (x ∷ F'))
one_limit z x F' k g (inl e) = k x (inl refl) g (inl e)
one_limit z x F' k g (inr (inl e)) = k x (inl refl) g (inr (inl e))
one_limit z x F' k g (inr (inr (inl e))) = k x (inl refl) g (inr (inr (inl e)))
one_limit z x F' k g (inr (inr (inr (inl e)))) = k x (inl refl) g (inr (inr (inr (inl e))))
one_limit z x F' k g (inr (inr (inr (inr i)))) = k g i g (inr (inr (inr (inr (inl refl)))))

only : (x : Constraint) (B : List Constraint) → In x B → Within (x ∷ []) B
only x B i y (inl e) = subst (λ z. In z B) (sym e) i
only x B i y (inr n) = absurd n

-- few rows of the same value

pub value_mono : (fs : List Form) (F G : List Constraint) → Within F G → Le (no_more fs) (least_crossing fs F) (least_crossing fs G)
value_mono fs F G w = go (least_crossing fs G) refl
  where
    go : (v : Value Point) → least_crossing fs G ≡ v → Le (no_more fs) (least_crossing fs F) v
    go top e = refl
    go (finite s) e = value_least fs F s (λ g i. value_kept fs G s e g (fewer_limits F G w g i))

module _ (fs : List Form) where
  -- where every three rows have a value of at most s, so has the whole list
  pub bounded : (x : Constraint) (F : List Constraint) (s : Point) → ((y z w : Constraint) → In y (x ∷ F) → In z (x ∷ F) → In w (x ∷ F) → Le (no_more fs) (least_crossing fs (y ∷ z ∷ w ∷ [])) (finite s)) → Le (no_more fs) (least_crossing fs (x ∷ F)) (finite s)
  bounded x F s h =
      let G = x ∷ F in
      let m = helly (Near fs s) (near_convex fs s) G
      (all_from_in (λ y. AllByRecursion (λ z. AllByRecursion (Meet (Near fs s) y z) G) G) G (λ y i. all_from_in (λ z. AllByRecursion (Meet (Near fs s) y z) G) G (λ z j. all_from_in (Meet (Near fs s) y z) G (λ w k. three y z w (least_crossing fs (y ∷ z ∷ w ∷ [])) refl (h y z w i j k))))) in
      let near : (y : Constraint) → In y G → Near fs s y m.0 = λ y i. all_in (λ z. Near fs s z m.0) G y m.1 i in
      (order fs).transitive (least_crossing fs (x ∷ F)) (finite m.0) (finite s)
      (value_least fs (x ∷ F) m.0 (one_limit m.0 x F (λ y i. (near y i).keeps)))
      (near x (inl refl)).no_larger
    where
      three : (y z w : Constraint) (v : Value Point) → least_crossing fs (y ∷ z ∷ w ∷ []) ≡ v → Le (no_more fs) v (finite s) → (p : Point) × Near fs s y p × Near fs s z p × Near fs s w p
      three y z w top e l = absurd (false≢true l)
      three y z w (finite t) e l =
          let k = value_kept fs (y ∷ z ∷ w ∷ []) t e in
          let near : (x : Constraint) → In x (y ∷ z ∷ w ∷ []) → Near fs s x t = λ x i. record { keeps = λ g j. k g (fewer_limits (x ∷ []) (y ∷ z ∷ w ∷ []) (only x (y ∷ z ∷ w ∷ []) i) g j); no_larger = l } in
          (t, near y (inl refl), near z (inr (inl refl)), near w (inr (inr (inl refl))))

  pub few : (F : List Constraint) → (B : List Constraint) × Within B F × (length B ≤ 3) × Equal (Alike fs) (least_crossing fs B) (least_crossing fs F)
  few [] = ([], λ x i. i, omega arith, (order fs).antisymmetric (least_crossing fs []) (least_crossing fs []) ((order fs).reflexive (least_crossing fs [])) ((order fs).reflexive (least_crossing fs [])))
  few (x ∷ F) = (B, within, le_refl 3, (order fs).antisymmetric (least_crossing fs B) (least_crossing fs (x ∷ F)) (value_mono fs B (x ∷ F) within) (above (least_crossing fs B) refl))
    where
      value3 : Constraint → Constraint → Constraint → Value Point
      value3 y z w = least_crossing fs (y ∷ z ∷ w ∷ [])

      third : (y z : Constraint) → (a : Constraint) × In a (x ∷ F) × ((b : Constraint) → In b (x ∷ F) → Le (no_more fs) (value3 y z b) (value3 y z a))
      third y z = greatest fs (value3 y z) x F

      second : (y : Constraint) → (a : Constraint) × In a (x ∷ F) × ((b : Constraint) → In b (x ∷ F) → Le (no_more fs) (value3 y b (third y b).0) (value3 y a (third y a).0))
      second y = greatest fs (λ z. value3 y z (third y z).0) x F

      best3 : (a : Constraint) × In a (x ∷ F) × ((b : Constraint) → In b (x ∷ F) → Le (no_more fs) (value3 b (second b).0 (third b (second b).0).0) (value3 a (second a).0 (third a (second a).0).0))
      best3 = greatest fs (λ y. value3 y (second y).0 (third y (second y).0).0) x F

      B : List Constraint
      B = best3.0 ∷ (second best3.0).0 ∷ (third best3.0 (second best3.0).0).0 ∷ []

      within : Within B (x ∷ F)
      within y (inl e) = subst (λ r. In r (x ∷ F)) (sym e) best3.1
      within y (inr (inl e)) = subst (λ r. In r (x ∷ F)) (sym e) (second best3.0).1
      within y (inr (inr (inl e))) = subst (λ r. In r (x ∷ F)) (sym e) (third best3.0 (second best3.0).0).1
      within y (inr (inr (inr n))) = absurd n

      most : (y z w : Constraint) → In y (x ∷ F) → In z (x ∷ F) → In w (x ∷ F) → Le (no_more fs) (value3 y z w) (least_crossing fs B)
      most y z w i j k =
          (order fs).transitive (value3 y z w) (value3 y z (third y z).0) (least_crossing fs B) ((third y z).2 w k)
          ((order fs).transitive (value3 y z (third y z).0) (value3 y (second y).0 (third y (second y).0).0) (least_crossing fs B) ((second y).2 z j) (best3.2 y i))

      above : (v : Value Point) → least_crossing fs B ≡ v → Le (no_more fs) (least_crossing fs (x ∷ F)) v
      above top e = refl
      above (finite s) e = bounded x F s (λ y z w i j k. subst (λ v. Le (no_more fs) (value3 y z w) v) e (most y z w i j k))
