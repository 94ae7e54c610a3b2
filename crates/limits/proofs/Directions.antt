-- Directions that the forms, in turn, do not lower: closed under sums and multiples, and the order of points by them.
use Rattle.std.proofs.Common.{◌≡◌, Bool, true, ◌&&◌, ◌⊎◌, List, [], ◌∷◌, ℤ, pos, ◌+ℤ◌, ◌-ℤ◌, ◌*ℤ◌, neg_ℤ, ◌≤ℤ◌, ◌<ℤ◌, sym, refl, ◌∙◌, subst, inl, inr, ⊎_elim, arith}
use Rattle.std.proofs.lemmas.Int.{by_lt_z}
use Rattle.std.proofs.lemmas.Bool.{or_left, or_right, or_cases, and_from, and_parts}
use lib.Signed.{lt_z, le_z, clash_ℤ}
use Rattle.algebra.specs.Point.{Point}
use Rattle.algebra.proofs.Ring.{num, ◌⊕◌, ◌⊖◌, ◌⊗◌, ⊝, ◌≐◌, ring2, ring3, ring4, ring6, ring8, ring11}
use Rattle.algebra.proofs.Order.{lin, eq_from, eq_from2, add_pos, mul_pos, mul_nonneg, le_of_lt, le_of_eq, antisym, le_z_in, le_z_out, lt_z_in, lt_z_out}
use Rattle.algebra.proofs.Signs.{by_sign, pos_of, zero_of, neg_above}
use Rattle.algebra.proofs.Convex.{gapX, gapY}
use Rattle.limits.specs.Forms.{Form, at, first, no_more, Alike, SamePoint}

-- signs

add_pos_right : {a b : ℤ} → pos 0 ≤ℤ a → pos 0 <ℤ b → pos 0 <ℤ (a +ℤ b)
add_pos_right {a} {b} h i = omega (arith, lin)

zeros : (k l : ℤ) {a b : ℤ} → a ≡ pos 0 → b ≡ pos 0 → k *ℤ a +ℤ l *ℤ b ≡ pos 0
zeros k l {a} {b} p q = eq_from2 k l p q (ring4 (λ k l a b. num 0 ⊖ (k ⊗ a ⊕ l ⊗ b) ≐ k ⊗ (num 0 ⊖ a) ⊕ l ⊗ (num 0 ⊖ b)) refl k l a b)

neg_below : {x y : ℤ} → y ≡ neg_ℤ x → pos 0 <ℤ x → pos 0 <ℤ y → ⊥
neg_below {x} {y} e h i = omega (arith, lin)

neg_flat : {x y : ℤ} → y ≡ neg_ℤ x → x ≡ pos 0 → y ≡ pos 0
neg_flat {x} {y} e h = omega (arith, lin)

flat_neg : {x y : ℤ} → y ≡ neg_ℤ x → y ≡ pos 0 → x ≡ pos 0
flat_neg {x} {y} e h = omega (arith, lin)

pos_zero : {x : ℤ} → pos 0 <ℤ x → x ≡ pos 0 → ⊥
pos_zero {x} h e = omega (arith, lin)

-- a form along a direction
abbrev pub on : Form → ℤ → ℤ → ℤ
on f x y = f.u *ℤ x +ℤ f.v *ℤ y

-- the first form that is not 0 along the direction is above 0
abbrev pub Up : List Form → ℤ → ℤ → Type 0
Up [] x y = Unit {0}
Up (f ∷ fs) x y = (pos 0 <ℤ on f x y) ⊎ ((on f x y ≡ pos 0) × Up fs x y)

-- each form is 0 along the direction
abbrev pub Flat : List Form → ℤ → ℤ → Type 0
Flat [] x y = Unit {0}
Flat (f ∷ fs) x y = (on f x y ≡ pos 0) × Flat fs x y

on_neg : (f : Form) (x y : ℤ) → on f (neg_ℤ x) (neg_ℤ y) ≡ neg_ℤ (on f x y)
on_neg f x y = ring4 (λ u v x y. u ⊗ ⊝ x ⊕ v ⊗ ⊝ y ≐ ⊝ (u ⊗ x ⊕ v ⊗ y)) refl f.u f.v x y

module _ (k l m dx dy ex ey gx gy : ℤ) (hk : pos 0 <ℤ k) (hl : pos 0 <ℤ l) (hm : pos 0 <ℤ m) (p : m *ℤ gx ≡ k *ℤ dx +ℤ l *ℤ ex) (q : m *ℤ gy ≡ k *ℤ dy +ℤ l *ℤ ey) where
  on_comb : (f : Form) → m *ℤ on f gx gy ≡ k *ℤ on f dx dy +ℤ l *ℤ on f ex ey
  on_comb f = eq_from2 f.u f.v p q (ring11 (λ u v k l m dx dy ex ey gx gy. (k ⊗ (u ⊗ dx ⊕ v ⊗ dy) ⊕ l ⊗ (u ⊗ ex ⊕ v ⊗ ey)) ⊖ m ⊗ (u ⊗ gx ⊕ v ⊗ gy) ≐ u ⊗ ((k ⊗ dx ⊕ l ⊗ ex) ⊖ m ⊗ gx) ⊕ v ⊗ ((k ⊗ dy ⊕ l ⊗ ey) ⊖ m ⊗ gy)) refl f.u f.v k l m dx dy ex ey gx gy)

  pub up_comb : (fs : List Form) → Up fs dx dy → Up fs ex ey → Up fs gx gy
  up_comb [] h i = tt
  up_comb (f ∷ fs) (inl h) (inl i) = inl (pos_of hm (on_comb f) (add_pos (mul_pos hk h) (le_of_lt (mul_pos hl i))))
  up_comb (f ∷ fs) (inl h) (inr i) = inl (pos_of hm (on_comb f) (add_pos (mul_pos hk h) (mul_nonneg (le_of_lt hl) (le_of_eq (sym i.0)))))
  up_comb (f ∷ fs) (inr h) (inl i) = inl (pos_of hm (on_comb f) (add_pos_right (mul_nonneg (le_of_lt hk) (le_of_eq (sym h.0))) (mul_pos hl i)))
  up_comb (f ∷ fs) (inr h) (inr i) = inr (zero_of hm (on_comb f) (zeros k l h.0 i.0), up_comb fs h.1 i.1)

pub up_zero : (fs : List Form) (x y : ℤ) → x ≡ pos 0 → y ≡ pos 0 → Up fs x y
up_zero [] x y p q = tt
up_zero (f ∷ fs) x y p q = inr (zeros f.u f.v p q, up_zero fs x y p q)

-- scaled by k
pub up_scale : (fs : List Form) (k x y gx gy : ℤ) → pos 0 ≤ℤ k → gx ≡ k *ℤ x → gy ≡ k *ℤ y → Up fs x y → Up fs gx gy
up_scale fs k x y gx gy h p q u = by_sign k
    (λ i. up_comb k k (pos 2) x y x y gx gy i i (record { lt = tt }) (twice gx x p) (twice gy y q) fs u u)
    (λ e. up_zero fs gx gy (none gx x p e) (none gy y q e))
    (λ l. clash_ℤ l h)
  where
    twice : (g x : ℤ) → g ≡ k *ℤ x → pos 2 *ℤ g ≡ k *ℤ x +ℤ k *ℤ x
    twice g x p = eq_from (pos 2) p (ring3 (λ g k x. (k ⊗ x ⊕ k ⊗ x) ⊖ num 2 ⊗ g ≐ num 2 ⊗ (k ⊗ x ⊖ g)) refl g k x)

    none : (g x : ℤ) → g ≡ k *ℤ x → k ≡ pos 0 → g ≡ pos 0
    none g x p e = p ∙ eq_from x e (ring2 (λ k x. num 0 ⊖ k ⊗ x ≐ x ⊗ (num 0 ⊖ k)) refl k x)

pub up_total : (fs : List Form) (x y : ℤ) → Up fs x y ⊎ Up fs (neg_ℤ x) (neg_ℤ y)
up_total [] x y = inl tt
up_total (f ∷ fs) x y = by_sign (on f x y)
    (λ h. inl (inl h))
    (λ e. ⊎_elim (λ u. inl (inr (e, u))) (λ u. inr (inr (neg_flat (on_neg f x y) e, u))) (up_total fs x y))
    (λ h. inr (inl (neg_above (on_neg f x y) h)))

pub up_flat : (fs : List Form) (x y : ℤ) → Up fs x y → Up fs (neg_ℤ x) (neg_ℤ y) → Flat fs x y
up_flat [] x y h i = tt
up_flat (f ∷ fs) x y (inl h) (inl i) = absurd (neg_below (on_neg f x y) h i)
up_flat (f ∷ fs) x y (inl h) (inr i) = absurd (pos_zero h (flat_neg (on_neg f x y) i.0))
up_flat (f ∷ fs) x y (inr h) (inl i) = absurd (pos_zero i (neg_flat (on_neg f x y) h.0))
up_flat (f ∷ fs) x y (inr h) (inr i) = (h.0, up_flat fs x y h.1 i.1)

pub flat_up : (fs : List Form) (x y : ℤ) → Flat fs x y → Up fs x y
flat_up [] x y h = tt
flat_up (f ∷ fs) x y h = inr (h.0, flat_up fs x y h.1)

-- the order of points: the way from s to t, times both denominators

on_gap : (f : Form) (s t : Point) → at f t *ℤ s.D -ℤ at f s *ℤ t.D ≡ on f (gapX s t) (gapY s t)
on_gap f s t = ring8 (λ u v x y d x' y' d'. (u ⊗ x' ⊕ v ⊗ y') ⊗ d ⊖ (u ⊗ x ⊕ v ⊗ y) ⊗ d' ≐ u ⊗ (d ⊗ x' ⊖ d' ⊗ x) ⊕ v ⊗ (d ⊗ y' ⊖ d' ⊗ y)) refl f.u f.v s.X s.Y s.D t.X t.Y t.D

lt_gap : {l r x : ℤ} → r -ℤ l ≡ x → l <ℤ r → pos 0 <ℤ x
lt_gap {l} {r} {x} e h = omega (arith, lin)

gap_lt : {l r x : ℤ} → r -ℤ l ≡ x → pos 0 <ℤ x → l <ℤ r
gap_lt {l} {r} {x} e h = omega (arith, lin)

eq_gap : {l r x : ℤ} → r -ℤ l ≡ x → l ≡ r → x ≡ pos 0
eq_gap {l} {r} {x} e h = omega (arith, lin)

gap_eq : {l r x : ℤ} → r -ℤ l ≡ x → x ≡ pos 0 → l ≡ r
gap_eq {l} {r} {x} e h = omega (arith, lin)

first_less : (m n : ℤ) (b : Bool) → m <ℤ n → first m n b ≡ true
first_less m n b h = or_left (lt_z m n) (le_z m n && b) (lt_z_in h)

first_same : (m n : ℤ) (b : Bool) → m ≡ n → b ≡ true → first m n b ≡ true
first_same m n b e t = or_right (lt_z m n) (le_z m n && b) (and_from (le_z m n) b (le_z_in (le_of_eq e)) t)

first_cases : (m n : ℤ) (b : Bool) → first m n b ≡ true → (m <ℤ n) ⊎ ((m ≡ n) × (b ≡ true))
first_cases m n b e = by_lt_z m n inl (λ l. ⊎_elim
    (λ t. inl (lt_z_out t))
    (λ t. let p = and_parts (le_z m n) b t in inr (antisym (le_z_out p.0) l, p.1))
    (or_cases (lt_z m n) (le_z m n && b) e))

pub le_up : (fs : List Form) (s t : Point) → no_more fs s t ≡ true → Up fs (gapX s t) (gapY s t)
le_up [] s t e = tt
le_up (f ∷ fs) s t e = ⊎_elim
    (λ h. inl (lt_gap (on_gap f s t) h))
    (λ h. inr (eq_gap (on_gap f s t) h.0, le_up fs s t h.1))
    (first_cases (at f s *ℤ t.D) (at f t *ℤ s.D) (no_more fs s t) e)

pub up_le : (fs : List Form) (s t : Point) → Up fs (gapX s t) (gapY s t) → no_more fs s t ≡ true
up_le [] s t e = refl
up_le (f ∷ fs) s t (inl h) = first_less (at f s *ℤ t.D) (at f t *ℤ s.D) (no_more fs s t) (gap_lt (on_gap f s t) h)
up_le (f ∷ fs) s t (inr h) = first_same (at f s *ℤ t.D) (at f t *ℤ s.D) (no_more fs s t) (gap_eq (on_gap f s t) h.0) (up_le fs s t h.1)

flat_alike : (fs : List Form) (s t : Point) → Flat fs (gapX s t) (gapY s t) → Alike fs s t
flat_alike [] s t h = tt
flat_alike (f ∷ fs) s t h = (gap_eq (on_gap f s t) h.0, flat_alike fs s t h.1)

alike_flat : (fs : List Form) (s t : Point) → Alike fs s t → Flat fs (gapX s t) (gapY s t)
alike_flat [] s t h = tt
alike_flat (f ∷ fs) s t h = (eq_gap (on_gap f s t) h.0, alike_flat fs s t h.1)

-- the laws of the order

neg_gap : (x d x' d' : ℤ) → d' *ℤ x -ℤ d *ℤ x' ≡ neg_ℤ (d *ℤ x' -ℤ d' *ℤ x)
neg_gap = ring4 (λ x d x' d'. d' ⊗ x ⊖ d ⊗ x' ≐ ⊝ (d ⊗ x' ⊖ d' ⊗ x)) refl

pub turned : (fs : List Form) (s t : Point) → Up fs (neg_ℤ (gapX s t)) (neg_ℤ (gapY s t)) → Up fs (gapX t s) (gapY t s)
turned fs s t h = subst (λ x. Up fs x (gapY t s)) (sym (neg_gap s.X s.D t.X t.D)) (subst (λ y. Up fs (neg_ℤ (gapX s t)) y) (sym (neg_gap s.Y s.D t.Y t.D)) h)

turned_back : (fs : List Form) (s t : Point) → Up fs (gapX t s) (gapY t s) → Up fs (neg_ℤ (gapX s t)) (neg_ℤ (gapY s t))
turned_back fs s t h = subst (λ x. Up fs x (neg_ℤ (gapY s t))) (neg_gap s.X s.D t.X t.D) (subst (λ y. Up fs (gapX t s) y) (neg_gap s.Y s.D t.Y t.D) h)

chain : (x d x' d' x'' d'' : ℤ) → d' *ℤ (d *ℤ x'' -ℤ d'' *ℤ x) ≡ d'' *ℤ (d *ℤ x' -ℤ d' *ℤ x) +ℤ d *ℤ (d' *ℤ x'' -ℤ d'' *ℤ x')
chain = ring6 (λ x d x' d' x'' d''. d' ⊗ (d ⊗ x'' ⊖ d'' ⊗ x) ≐ d'' ⊗ (d ⊗ x' ⊖ d' ⊗ x) ⊕ d ⊗ (d' ⊗ x'' ⊖ d'' ⊗ x')) refl

self : (x d : ℤ) → d *ℤ x -ℤ d *ℤ x ≡ pos 0
self = ring2 (λ x d. d ⊗ x ⊖ d ⊗ x ≐ num 0) refl

pub no_more_refl : (fs : List Form) (s : Point) → no_more fs s s ≡ true
no_more_refl fs s = up_le fs s s (up_zero fs (gapX s s) (gapY s s) (self s.X s.D) (self s.Y s.D))

pub no_more_trans : (fs : List Form) (s t w : Point) → no_more fs s t ≡ true → no_more fs t w ≡ true → no_more fs s w ≡ true
no_more_trans fs s t w p q = up_le fs s w (up_comb w.D s.D t.D (gapX s t) (gapY s t) (gapX t w) (gapY t w) (gapX s w) (gapY s w) w.positive s.positive t.positive
    (chain s.X s.D t.X t.D w.X w.D) (chain s.Y s.D t.Y t.D w.Y w.D) fs (le_up fs s t p) (le_up fs t w q))

pub no_more_total : (fs : List Form) (s t : Point) → (no_more fs s t ≡ true) ⊎ (no_more fs t s ≡ true)
no_more_total fs s t = ⊎_elim (λ h. inl (up_le fs s t h)) (λ h. inr (up_le fs t s (turned fs s t h))) (up_total fs (gapX s t) (gapY s t))

pub no_more_antisym : (fs : List Form) (s t : Point) → no_more fs s t ≡ true → no_more fs t s ≡ true → Alike fs s t
no_more_antisym fs s t p q = flat_alike fs s t (up_flat fs (gapX s t) (gapY s t) (le_up fs s t p) (turned_back fs s t (le_up fs t s q)))

pub alike_refl : (fs : List Form) (s : Point) → Alike fs s s
alike_refl [] s = tt
alike_refl (f ∷ fs) s = (refl, alike_refl fs s)

pub alike_sym : (fs : List Form) (s t : Point) → Alike fs s t → Alike fs t s
alike_sym [] s t h = tt
alike_sym (f ∷ fs) s t h = (sym h.0, alike_sym fs s t h.1)

pub alike_le : (fs : List Form) (s t : Point) → Alike fs s t → no_more fs s t ≡ true
alike_le fs s t h = up_le fs s t (flat_up fs (gapX s t) (gapY s t) (alike_flat fs s t h))

-- the same point has the same size
pub same_alike : (fs : List Form) (s t : Point) → SamePoint s t → Alike fs s t
same_alike [] s t h = tt
same_alike (f ∷ fs) s t h = (eq_from2 f.u f.v h.0 h.1 (ring8 (λ u v x y d x' y' d'. (u ⊗ x' ⊕ v ⊗ y') ⊗ d ⊖ (u ⊗ x ⊕ v ⊗ y) ⊗ d' ≐ u ⊗ (x' ⊗ d ⊖ x ⊗ d') ⊕ v ⊗ (y' ⊗ d ⊖ y ⊗ d')) refl f.u f.v s.X s.Y s.D t.X t.Y t.D), same_alike fs s t h)
