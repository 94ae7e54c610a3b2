-- From any point that keeps all limits to a crossing of two of them that keeps them all and is no larger.
use Rattle.std.proofs.Common.{◌≡◌, zero, suc, true, List, [], ◌∷◌, ℤ, pos, negsuc, ◌+ℤ◌, ◌-ℤ◌, ◌*ℤ◌, neg_ℤ, ◌<ℤ◌, sym, refl, ◌∙◌, subst, inl, inr, ⊎_elim, arith}
use Rattle.algebra.proofs.Ring.{num, lit, ◌⊕◌, ◌⊖◌, ◌⊗◌, ⊝, ◌≐◌, ring2, ring4, ring9}
use Rattle.algebra.proofs.Order.{lin, eq_from, eq_from2, le_of_lt, mul_nonneg}
use Rattle.algebra.specs.Point.{Point}
use Rattle.algebra.proofs.Signs.{by_sign, neg_above, neg_zero, nonneg_of}
use Rattle.lptype.specs.Meaning.{In}
use Rattle.lptype.proofs.Inside.{in_left, in_right}
use Rattle.rows.specs.declared.row.Constraint.{Constraint}
use Rattle.limits.specs.Forms.{Form, no_more, SamePoint}
use Rattle.limits.specs.Crossings.{KeepsEvery, Keeps, cramer_x, cramer_y, cramer_d, point_of, crossing, crossings, crossings_with, above}
use Rattle.limits.specs.Least.{side, limits}
use Rattle.limits.proofs.Directions.{Up, up_total, no_more_trans, same_alike, alike_le}
use Rattle.limits.proofs.Moving.{slack, along, keeps_slack, slack_keeps, moved, moved_tight, moved_no_more, move}

-- the square bounds every direction

pub ahead_side : (F : List Constraint) (dx dy : ℤ) → (dx ≡ pos 0 → dy ≡ pos 0 → ⊥) → (g : Constraint) × In g (limits F) × (pos 0 <ℤ along dx dy g)
ahead_side F dx dy n = by_sign dx
    (λ h. (side (pos 1) (pos 0), inl refl, subst (λ v. pos 0 <ℤ v) (east dx dy) h))
    (λ e. by_sign dy
    (λ h. (side (pos 0) (pos 1), inr (inr (inl refl)), subst (λ v. pos 0 <ℤ v) (north dx dy) h))
    (λ f. absurd (n e f))
    (λ h. (side (pos 0) (negsuc 0), inr (inr (inr (inl refl))), neg_above (south dx dy) h)))
    (λ h. (side (negsuc 0) (pos 0), inr (inl refl), neg_above (west dx dy) h))
  where
    east : (dx dy : ℤ) → dx ≡ pos 1 *ℤ dx +ℤ pos 0 *ℤ dy
    east = ring2 (λ dx dy. dx ≐ num 1 ⊗ dx ⊕ num 0 ⊗ dy) refl

    north : (dx dy : ℤ) → dy ≡ pos 0 *ℤ dx +ℤ pos 1 *ℤ dy
    north = ring2 (λ dx dy. dy ≐ num 0 ⊗ dx ⊕ num 1 ⊗ dy) refl

    west : (dx dy : ℤ) → negsuc 0 *ℤ dx +ℤ pos 0 *ℤ dy ≡ neg_ℤ dx
    west = ring2 (λ dx dy. lit (negsuc 0) ⊗ dx ⊕ num 0 ⊗ dy ≐ ⊝ dx) refl

    south : (dx dy : ℤ) → pos 0 *ℤ dx +ℤ negsuc 0 *ℤ dy ≡ neg_ℤ dy
    south = ring2 (λ dx dy. num 0 ⊗ dx ⊕ lit (negsuc 0) ⊗ dy ≐ ⊝ dy) refl

-- one step: along a line, in the direction that does not raise the size

pub record Stepped (fs : List Form) (F : List Constraint) (z : Point) (dx dy : ℤ) : Type 0 where
  pub to : Point
  pub keeps : KeepsEvery to (limits F)
  pub no_larger : no_more fs to z ≡ true
  pub stop : Constraint
  pub among : In stop (limits F)
  pub tight : slack to stop ≡ pos 0
  pub across : along dx dy stop ≡ pos 0 → ⊥
  pub still : (g : Constraint) → slack z g ≡ pos 0 → along dx dy g ≡ pos 0 → slack to g ≡ pos 0

above_zero : {x y : ℤ} → pos 0 <ℤ x → y ≡ pos 0 → x ≡ neg_ℤ y → ⊥
above_zero {x} {y} h e f = omega (arith, lin)

is_above : {x : ℤ} → pos 0 <ℤ x → x ≡ pos 0 → ⊥
is_above {x} h e = omega (arith, lin)

zero_neg : {x y : ℤ} → x ≡ neg_ℤ y → y ≡ pos 0 → x ≡ pos 0
zero_neg {x} {y} f e = omega (arith, lin)

along_neg : (dx dy : ℤ) (g : Constraint) → along (neg_ℤ dx) (neg_ℤ dy) g ≡ neg_ℤ (along dx dy g)
along_neg dx dy g = ring4 (λ a b dx dy. a ⊗ ⊝ dx ⊕ b ⊗ ⊝ dy ≐ ⊝ (a ⊗ dx ⊕ b ⊗ dy)) refl g.a g.b dx dy

neg_neg : (x : ℤ) → x ≡ neg_ℤ (neg_ℤ x)
neg_neg x = omega (arith, lin)

module _ (fs : List Form) (F : List Constraint) (z : Point) (k : KeepsEvery z (limits F)) where
  pub step : (dx dy : ℤ) → (dx ≡ pos 0 → dy ≡ pos 0 → ⊥) → Stepped fs F z dx dy
  step dx dy n = ⊎_elim back forth (up_total fs dx dy)
    where
      back : Up fs dx dy → Stepped fs F z dx dy
      back u =
          let s = ahead_side F (neg_ℤ dx) (neg_ℤ dy) (λ p q. n (neg_zero p) (neg_zero q)) in
          let m = move (limits F) z (neg_ℤ dx) (neg_ℤ dy) k s.0 s.1 s.2 in
          record {
            to = moved z m.n m.m (neg_ℤ dx) (neg_ℤ dy) m.below;
            keeps = m.keeps;
            no_larger = moved_no_more fs z m.n m.m (neg_ℤ dx) (neg_ℤ dy) m.below m.forward (subst (λ x. Up fs x (neg_ℤ (neg_ℤ dy))) (neg_neg dx) (subst (λ y. Up fs dx y) (neg_neg dy) u));
            stop = m.stop;
            among = m.among;
            tight = m.tight;
            across = λ e. above_zero m.ahead e (along_neg dx dy m.stop);
            still = λ g p q. moved_tight z m.n m.m (neg_ℤ dx) (neg_ℤ dy) m.below g p (zero_neg (along_neg dx dy g) q);
          }

      forth : Up fs (neg_ℤ dx) (neg_ℤ dy) → Stepped fs F z dx dy
      forth u =
          let s = ahead_side F dx dy n in
          let m = move (limits F) z dx dy k s.0 s.1 s.2 in
          record {
            to = moved z m.n m.m dx dy m.below;
            keeps = m.keeps;
            no_larger = moved_no_more fs z m.n m.m dx dy m.below m.forward u;
            stop = m.stop;
            among = m.among;
            tight = m.tight;
            across = λ e. is_above m.ahead e;
            still = λ g p q. moved_tight z m.n m.m dx dy m.below g p q;
          }

-- the crossing is the point that is tight at both lines

pub tight_crossing : (g h : Constraint) (w : Point) → slack w g ≡ pos 0 → slack w h ≡ pos 0 → (cramer_d g h ≡ pos 0 → ⊥) → (v : Point) × In v (crossing g h) × SamePoint v w
tight_crossing g h w p q n = go (cramer_d g h) n
    (eq_from2 h.b (neg_ℤ g.b) p q (ring9 (λ a b c a' b' c' x y d. x ⊗ (a ⊗ b' ⊖ a' ⊗ b) ⊖ (c ⊗ b' ⊖ c' ⊗ b) ⊗ d ≐ b' ⊗ (num 0 ⊖ (c ⊗ d ⊖ (a ⊗ x ⊕ b ⊗ y))) ⊕ ⊝ b ⊗ (num 0 ⊖ (c' ⊗ d ⊖ (a' ⊗ x ⊕ b' ⊗ y)))) refl g.a g.b g.c h.a h.b h.c w.X w.Y w.D))
    (eq_from2 (neg_ℤ h.a) g.a p q (ring9 (λ a b c a' b' c' x y d. y ⊗ (a ⊗ b' ⊖ a' ⊗ b) ⊖ (a ⊗ c' ⊖ a' ⊗ c) ⊗ d ≐ ⊝ a' ⊗ (num 0 ⊖ (c ⊗ d ⊖ (a ⊗ x ⊕ b ⊗ y))) ⊕ a ⊗ (num 0 ⊖ (c' ⊗ d ⊖ (a' ⊗ x ⊕ b' ⊗ y)))) refl g.a g.b g.c h.a h.b h.c w.X w.Y w.D))
  where
    x : ℤ
    x = cramer_x g h

    y : ℤ
    y = cramer_y g h

    turn : (n w d e : ℤ) → n *ℤ w ≡ e *ℤ d → neg_ℤ n *ℤ w ≡ e *ℤ neg_ℤ d
    turn n w d e p = eq_from (negsuc 0) p (ring4 (λ n w d e. e ⊗ ⊝ d ⊖ ⊝ n ⊗ w ≐ lit (negsuc 0) ⊗ (e ⊗ d ⊖ n ⊗ w)) refl n w d e)

    go : (d : ℤ) → (d ≡ pos 0 → ⊥) → x *ℤ w.D ≡ w.X *ℤ d → y *ℤ w.D ≡ w.Y *ℤ d → (v : Point) × In v (point_of x y d) × SamePoint v w
    go (pos zero) n p q = absurd (n refl)
    go (pos (suc m)) n p q = (record { X = x; Y = y; D = pos (suc m); positive = above m }, inl refl, (p, q))
    go (negsuc m) n p q = (record { X = neg_ℤ x; Y = neg_ℤ y; D = pos (suc m); positive = above m }, inl refl, (turn x w.D (negsuc m) w.X p, turn y w.D (negsuc m) w.Y q))

-- the same point keeps the same limits
pub same_keeps : (v w : Point) (g : Constraint) → SamePoint v w → Keeps w g → Keeps v g
same_keeps v w g e k = slack_keeps v g (nonneg_of {y = v.D *ℤ slack w g} w.positive
    (eq_from2 (neg_ℤ g.a) (neg_ℤ g.b) e.0 e.1 (ring9 (λ a b c x y d x' y' d'. d ⊗ (c ⊗ d' ⊖ (a ⊗ x' ⊕ b ⊗ y')) ⊖ d' ⊗ (c ⊗ d ⊖ (a ⊗ x ⊕ b ⊗ y)) ≐ ⊝ a ⊗ (x' ⊗ d ⊖ x ⊗ d') ⊕ ⊝ b ⊗ (y' ⊗ d ⊖ y ⊗ d')) refl g.a g.b g.c v.X v.Y v.D w.X w.Y w.D))
    (mul_nonneg (le_of_lt v.positive) (keeps_slack w g k)))

-- the crossings of a list

in_with : (v : Point) (g h : Constraint) (H : List Constraint) → In h H → In v (crossing g h) → In v (crossings_with g H)
unfolding crossings_with
in_with v g h [] i j = absurd i
in_with v g h (k ∷ H) (inl e) j = in_left (crossing g k) (crossings_with g H) v (subst (λ r. In v (crossing g r)) e j)
in_with v g h (k ∷ H) (inr i) j = in_right (crossing g k) (crossings_with g H) v (in_with v g h H i j)

parallel_self : (g h : Constraint) → g ≡ h → cramer_d g h ≡ pos 0
parallel_self g h e = subst (λ r. cramer_d g r ≡ pos 0) e (ring2 (λ a b. a ⊗ b ⊖ a ⊗ b ≐ num 0) refl g.a g.b)

turned_d : (g h : Constraint) → cramer_d g h ≡ neg_ℤ (cramer_d h g)
turned_d g h = ring4 (λ a b a' b'. a ⊗ b' ⊖ a' ⊗ b ≐ ⊝ (a' ⊗ b ⊖ a ⊗ b')) refl g.a g.b h.a h.b

-- a point that is tight at two lines of the list that are not parallel is one of the list's crossings
pub in_crossings : (w : Point) (g h : Constraint) (G : List Constraint) → In g G → In h G → slack w g ≡ pos 0 → slack w h ≡ pos 0 → (cramer_d g h ≡ pos 0 → ⊥) → (v : Point) × In v (crossings G) × SamePoint v w
unfolding crossings
in_crossings w g h [] i j p q n = absurd i
in_crossings w g h (f ∷ G) (inl d) (inl e) p q n = absurd (n (parallel_self g h (d ∙ sym e)))
in_crossings w g h (f ∷ G) (inl d) (inr j) p q n =
    let t = tight_crossing g h w p q n in
    (t.0, in_left (crossings_with f G) (crossings G) t.0 (subst (λ r. In t.0 (crossings_with r G)) d (in_with t.0 g h G j t.1)), t.2)
in_crossings w g h (f ∷ G) (inr i) (inl e) p q n =
    let t = tight_crossing h g w q p (λ z. n (zero_neg (turned_d g h) z)) in
    (t.0, in_left (crossings_with f G) (crossings G) t.0 (subst (λ r. In t.0 (crossings_with r G)) e (in_with t.0 h g G i t.1)), t.2)
in_crossings w g h (f ∷ G) (inr i) (inr j) p q n =
    let t = in_crossings w g h G i j p q n in
    (t.0, in_right (crossings_with f G) (crossings G) t.0 t.1, t.2)

-- the rounding

pub record Rounded (fs : List Form) (F : List Constraint) (z : Point) : Type 0 where
  pub to : Point
  pub crosses : In to (crossings (limits F))
  pub keeps : KeepsEvery to (limits F)
  pub no_larger : no_more fs to z ≡ true

pub round : (fs : List Form) (F : List Constraint) (z : Point) → KeepsEvery z (limits F) → Rounded fs F z
round fs F z k =
    let one = step fs F z k (pos 1) (pos 0) (λ e _. is_above (above 0) e) in
    let g = one.stop in
    let two = step fs F one.to one.keeps (neg_ℤ g.b) g.a (λ e f. one.across (level g.a g.b f)) in
    let h = two.stop in
    let v = in_crossings two.to g h (limits F) one.among two.among (two.still g one.tight (itself g.a g.b)) two.tight (λ e. two.across (turned g.a g.b h.a h.b ∙ e)) in
    record {
      to = v.0;
      crosses = v.1;
      keeps = λ x i. same_keeps v.0 two.to x v.2 (two.keeps x i);
      no_larger = no_more_trans fs v.0 two.to z (alike_le fs v.0 two.to (same_alike fs v.0 two.to v.2)) (no_more_trans fs two.to one.to z two.no_larger one.no_larger);
    }
  where
    level : (a b : ℤ) → a ≡ pos 0 → a *ℤ pos 1 +ℤ b *ℤ pos 0 ≡ pos 0
    level a b e = ring2 (λ a b. a ⊗ num 1 ⊕ b ⊗ num 0 ≐ a) refl a b ∙ e

    itself : (a b : ℤ) → a *ℤ neg_ℤ b +ℤ b *ℤ a ≡ pos 0
    itself = ring2 (λ a b. a ⊗ ⊝ b ⊕ b ⊗ a ≐ num 0) refl

    turned : (a b a' b' : ℤ) → a' *ℤ neg_ℤ b +ℤ b' *ℤ a ≡ a *ℤ b' -ℤ a' *ℤ b
    turned = ring4 (λ a b a' b'. a' ⊗ ⊝ b ⊕ b' ⊗ a ≐ a ⊗ b' ⊖ a' ⊗ b) refl
