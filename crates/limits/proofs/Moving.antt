-- The ratio test, and a move along a direction until a limit is tight.
use Rattle.std.proofs.Common.{◌≡◌, true, ◌⊎◌, List, [], ◌∷◌, ℤ, pos, ◌+ℤ◌, ◌-ℤ◌, ◌*ℤ◌, neg_ℤ, ◌≤ℤ◌, ◌<ℤ◌, sym, refl, ◌∙◌, subst, inl, inr, ⊎_elim}
use Rattle.std.proofs.lemmas.Int.{by_lt_z}
use lib.Signed.{≤ℤ_refl, clash_ℤ}
use Rattle.algebra.proofs.Ring.{num, ◌⊕◌, ◌⊖◌, ◌⊗◌, ⊝, ◌≐◌, ring4, ring5, ring6, ring10}
use Rattle.algebra.proofs.Order.{le_by, le_by_mul, eq_from2, add_nonneg, mul_pos, mul_nonneg, le_of_lt, nonneg_diff, zero_diff}
use Rattle.algebra.specs.Point.{Point}
use Rattle.lptype.specs.Meaning.{In}
use Rattle.rows.specs.declared.row.Constraint.{Constraint}
use Rattle.limits.specs.Forms.{Form, no_more}
use Rattle.limits.specs.Crossings.{KeepsEvery, Keeps}
use Rattle.limits.proofs.Directions.{Up, up_scale, up_le}

-- s·e is not above 0 where 0 ≤ s and e ≤ 0, and t·f is not below
crossed : (s e t f : ℤ) → pos 0 ≤ℤ s → e ≤ℤ pos 0 → pos 0 ≤ℤ t → pos 0 ≤ℤ f → (s *ℤ e) ≤ℤ (t *ℤ f)
crossed s e t f hs he ht hf = le_by (add_nonneg (mul_nonneg hs (nonneg_diff he)) (mul_nonneg ht hf)) (ring4 (λ s e t f. t ⊗ f ⊖ s ⊗ e ≐ s ⊗ (num 0 ⊖ e) ⊕ t ⊗ f) refl s e t f)

-- a least fraction s/e among those with e above 0, or no e is above 0
module _ {A : Type 0} (s e : A → ℤ) where
  pub record Least (G : List A) : Type 0 where
    pub stop : A
    pub among : In stop G
    pub ahead : pos 0 <ℤ e stop
    pub least : (g : A) → In g G → (s stop *ℤ e g) ≤ℤ (s g *ℤ e stop)

  pub ratio : (G : List A) → ((g : A) → In g G → pos 0 ≤ℤ s g) → ((g : A) → In g G → e g ≤ℤ pos 0) ⊎ Least G
  ratio [] h = inl (λ g i. absurd i)
  ratio (g ∷ G) h = go (ratio G (λ x i. h x (inr i)))
    where
      at_head : (P : A → Type 0) → P g → ((x : A) → In x G → P x) → (x : A) → In x (g ∷ G) → P x
      at_head P p q x (inl j) = subst P (sym j) p
      at_head P p q x (inr j) = q x j

      hg : pos 0 ≤ℤ s g
      hg = h g (inl refl)

      go : ((x : A) → In x G → e x ≤ℤ pos 0) ⊎ Least G → ((x : A) → In x (g ∷ G) → e x ≤ℤ pos 0) ⊎ Least (g ∷ G)
      go (inl none) = by_lt_z (pos 0) (e g)
          (λ up. inr (record {
            stop = g;
            among = inl refl;
            ahead = up;
            least = at_head (λ x. (s g *ℤ e x) ≤ℤ (s x *ℤ e g)) (≤ℤ_refl (s g *ℤ e g)) (λ x i. crossed (s g) (e x) (s x) (e g) hg (none x i) (h x (inr i)) (le_of_lt up));
          }))
          (λ down. inl (at_head (λ x. e x ≤ℤ pos 0) down none))
      go (inr b) =
          let hb : pos 0 ≤ℤ s b.stop = h b.stop (inr b.among) in
          let keep : (s b.stop *ℤ e g) ≤ℤ (s g *ℤ e b.stop) → Least (g ∷ G) = λ l. record { stop = b.stop; among = inr b.among; ahead = b.ahead; least = at_head (λ x. (s b.stop *ℤ e x) ≤ℤ (s x *ℤ e b.stop)) l b.least } in
          by_lt_z (s g *ℤ e b.stop) (s b.stop *ℤ e g)
          (λ l. by_lt_z (pos 0) (e g)
          (λ up. inr (record {
            stop = g;
            among = inl refl;
            ahead = up;
            least = at_head (λ x. (s g *ℤ e x) ≤ℤ (s x *ℤ e g)) (≤ℤ_refl (s g *ℤ e g))
                (λ x i. by_lt_z (pos 0) (e x)
                (λ ex. le_by_mul b.ahead (add_nonneg (mul_nonneg (nonneg_diff (b.least x i)) (le_of_lt up)) (mul_nonneg (nonneg_diff (le_of_lt l)) (le_of_lt ex)))
                (ring6 (λ s e t f w k. f ⊗ (w ⊗ e ⊖ s ⊗ k) ≐ (w ⊗ f ⊖ t ⊗ k) ⊗ e ⊕ (t ⊗ e ⊖ s ⊗ f) ⊗ k) refl (s g) (e g) (s b.stop) (e b.stop) (s x) (e x)))
                (λ ex. crossed (s g) (e x) (s x) (e g) hg ex (h x (inr i)) (le_of_lt up)));
          }))
          (λ down. inr (keep (crossed (s b.stop) (e g) (s g) (e b.stop) hb down hg (le_of_lt b.ahead)))))
          (λ l. inr (keep l))

-- limits

-- what is left of the limit g at z, times D
abbrev pub slack : Point → Constraint → ℤ
slack z g = g.c *ℤ z.D -ℤ (g.a *ℤ z.X +ℤ g.b *ℤ z.Y)

-- the limit's form along a direction
abbrev pub along : ℤ → ℤ → Constraint → ℤ
along dx dy g = g.a *ℤ dx +ℤ g.b *ℤ dy

pub keeps_slack : (z : Point) (g : Constraint) → Keeps z g → pos 0 ≤ℤ slack z g
keeps_slack z g h = nonneg_diff h

pub slack_keeps : (z : Point) (g : Constraint) → pos 0 ≤ℤ slack z g → Keeps z g
slack_keeps z g h = le_by h refl

-- the point z + (n/m)·d, with n taken over the denominator of z
abbrev pub moved : Point → (n m dx dy : ℤ) → pos 0 <ℤ m → Point
moved z n m dx dy h = record { X = m *ℤ z.X +ℤ n *ℤ dx; Y = m *ℤ z.Y +ℤ n *ℤ dy; D = m *ℤ z.D; positive = mul_pos h z.positive }

moved_slack : (z : Point) (n m dx dy : ℤ) (h : pos 0 <ℤ m) (g : Constraint) → slack (moved z n m dx dy h) g ≡ slack z g *ℤ m -ℤ n *ℤ along dx dy g
moved_slack z n m dx dy h g = ring10 (λ a b c x y d n m dx dy. c ⊗ (m ⊗ d) ⊖ (a ⊗ (m ⊗ x ⊕ n ⊗ dx) ⊕ b ⊗ (m ⊗ y ⊕ n ⊗ dy)) ≐ (c ⊗ d ⊖ (a ⊗ x ⊕ b ⊗ y)) ⊗ m ⊖ n ⊗ (a ⊗ dx ⊕ b ⊗ dy)) refl g.a g.b g.c z.X z.Y z.D n m dx dy

pub moved_tight : (z : Point) (n m dx dy : ℤ) (h : pos 0 <ℤ m) (g : Constraint) → slack z g ≡ pos 0 → along dx dy g ≡ pos 0 → slack (moved z n m dx dy h) g ≡ pos 0
moved_tight z n m dx dy h g p q = moved_slack z n m dx dy h g ∙ eq_from2 m (neg_ℤ n) p q (ring4 (λ s e m n. num 0 ⊖ (s ⊗ m ⊖ n ⊗ e) ≐ m ⊗ (num 0 ⊖ s) ⊕ ⊝ n ⊗ (num 0 ⊖ e)) refl (slack z g) (along dx dy g) m n)

-- a point z + (n/m)·d, n not negative, that keeps all of G and is tight at some g of G with g·d above 0
pub record Moved (G : List Constraint) (z : Point) (dx dy : ℤ) : Type 0 where
  pub n : ℤ
  pub m : ℤ
  pub forward : pos 0 ≤ℤ n
  pub below : pos 0 <ℤ m
  pub keeps : KeepsEvery (moved z n m dx dy below) G
  pub stop : Constraint
  pub among : In stop G
  pub ahead : pos 0 <ℤ along dx dy stop
  pub tight : slack (moved z n m dx dy below) stop ≡ pos 0

pub move : (G : List Constraint) (z : Point) (dx dy : ℤ) → KeepsEvery z G → (g : Constraint) → In g G → pos 0 <ℤ along dx dy g → Moved G z dx dy
move G z dx dy k g i up = ⊎_elim
    (λ none. clash_ℤ up (none g i))
    (λ b. record {
      n = slack z b.stop;
      m = along dx dy b.stop;
      forward = keeps_slack z b.stop (k b.stop b.among);
      below = b.ahead;
      keeps = λ x j. slack_keeps (moved z (slack z b.stop) (along dx dy b.stop) dx dy b.ahead) x
          (subst (λ v. pos 0 ≤ℤ v) (sym (moved_slack z (slack z b.stop) (along dx dy b.stop) dx dy b.ahead x)) (nonneg_diff (b.least x j)));
      stop = b.stop;
      among = b.among;
      ahead = b.ahead;
      tight = moved_slack z (slack z b.stop) (along dx dy b.stop) dx dy b.ahead b.stop ∙ zero_diff {l = slack z b.stop *ℤ along dx dy b.stop} refl;
    })
    (ratio (slack z) (along dx dy) G (λ x j. keeps_slack z x (k x j)))

-- a move along a direction whose opposite the forms do not lower does not raise the size
pub moved_no_more : (fs : List Form) (z : Point) (n m dx dy : ℤ) (h : pos 0 <ℤ m) → pos 0 ≤ℤ n → Up fs (neg_ℤ dx) (neg_ℤ dy) → no_more fs (moved z n m dx dy h) z ≡ true
moved_no_more fs z n m dx dy h f u = up_le fs (moved z n m dx dy h) z (up_scale fs (z.D *ℤ n) (neg_ℤ dx) (neg_ℤ dy) _ _ (mul_nonneg (le_of_lt z.positive) f) (back z.X dx) (back z.Y dy) u)
  where
    back : (x dx : ℤ) → m *ℤ z.D *ℤ x -ℤ z.D *ℤ (m *ℤ x +ℤ n *ℤ dx) ≡ z.D *ℤ n *ℤ neg_ℤ dx
    back x dx = ring5 (λ x dx d m n. m ⊗ d ⊗ x ⊖ d ⊗ (m ⊗ x ⊕ n ⊗ dx) ≐ d ⊗ n ⊗ ⊝ dx) refl x dx z.D m n
