-- What follows of a best disc; a best disc of any three points; and the centres within a size of a point.
use Rattle.std.proofs.Common.{◌≡◌, Bool, true, false, List, [], ◌∷◌, ℤ, pos, ◌+ℤ◌, ◌-ℤ◌, ◌*ℤ◌, ◌≤ℤ◌, ◌<ℤ◌, sym, refl, subst, inl, inr, arith}
use lib.Signed.{lt_z}
use Rattle.rows.specs.declared.row.Constraint.{Constraint}
use Rattle.lptype.specs.Meaning.{In}
use Rattle.algebra.specs.Fraction.{Fraction, denominator, frac_le, frac_same}
use Rattle.algebra.specs.Point.{Point}
use Rattle.algebra.proofs.Ring.{num, ◌⊕◌, ◌⊖◌, ◌⊗◌, ◌≐◌, ring2, ring4, ring5, ring8, ring10}
use Rattle.algebra.proofs.Order.{lin, le_by, le_by_mul, le_of_lt, nonneg_diff, add_nonneg, mul_nonneg, mul_pos, sq_nonneg, squares_zero, lt_z_out, lt_z_false}
use Rattle.algebra.proofs.Fractions.{denominator_pos}
use Rattle.algebra.proofs.Convex.{Convex}
use Rattle.circles.specs.Angles.{corner, turn, Acute}
use Rattle.circles.specs.Discs.{Circle, disc, from_centre, KeepsPoint, disc_size, pair_size, circle_size, three_size}
use Rattle.circles.proofs.Quoted.{squaresE, from_centreE}
use Rattle.circles.proofs.Sizes.{over_le, le_over, over_same}
use Rattle.circles.proofs.Optimal.{far, Optimal, sq_sum, pair, pair_keeps, pair_first, pair_second, pair_best, turn_pos, sides, triangle, triangle_best}

-- d squared is above 0
pub square_pos : (c : Circle) → pos 0 <ℤ (c.D *ℤ c.D)
square_pos c = mul_pos c.positive c.positive

-- a best disc is no larger

pub no_larger : (c : Circle) (F : List Constraint) → Optimal c F → (e : Circle) → ((x : Constraint) → In x F → KeepsPoint (disc e) x) → frac_le (disc_size (disc c)) (disc_size (disc e)) ≡ true
no_larger c F o e k = over_le c.Q e.Q (square_pos c) (square_pos e)
    (le_by (add_nonneg (nonneg_diff (o.dual e k)) (sq_sum (c.D *ℤ e.X -ℤ e.D *ℤ c.X) (c.D *ℤ e.Y -ℤ e.D *ℤ c.Y)))
    (ring5 (λ q d r b f. r ⊗ (d ⊗ d) ⊖ q ⊗ (b ⊗ b) ≐ (d ⊗ d ⊗ r ⊖ (b ⊗ b ⊗ q ⊕ f)) ⊕ f) refl c.Q c.D e.Q e.D (far c e)))

-- and of equal size only round the same centre

zero_of : (f a b : ℤ) → (a +ℤ f) ≤ℤ b → b ≤ℤ a → pos 0 ≤ℤ f → f ≡ pos 0
zero_of f a b h i j = omega (arith, lin)

equal_of : (a b : ℤ) → a -ℤ b ≡ pos 0 → a ≡ b
equal_of a b h = omega (arith, lin)

pub centred : (c : Circle) (F : List Constraint) → Optimal c F → (e : Circle) → ((x : Constraint) → In x F → KeepsPoint (disc e) x) → frac_le (disc_size (disc e)) (disc_size (disc c)) ≡ true →
    (c.D *ℤ e.X ≡ e.D *ℤ c.X) × (c.D *ℤ e.Y ≡ e.D *ℤ c.Y)
centred c F o e k l =
    let z = squares_zero (c.D *ℤ e.X -ℤ e.D *ℤ c.X) (c.D *ℤ e.Y -ℤ e.D *ℤ c.Y)
    (zero_of (far c e) (e.D *ℤ e.D *ℤ c.Q) (c.D *ℤ c.D *ℤ e.Q) (o.dual e k)
    (le_by (nonneg_diff (le_over e.Q c.Q (square_pos e) (square_pos c) l))
    (ring4 (λ q d r b. b ⊗ b ⊗ q ⊖ d ⊗ d ⊗ r ≐ q ⊗ (b ⊗ b) ⊖ r ⊗ (d ⊗ d)) refl c.Q c.D e.Q e.D))
    (sq_sum (c.D *ℤ e.X -ℤ e.D *ℤ c.X) (c.D *ℤ e.Y -ℤ e.D *ℤ c.Y))) in
    (equal_of (c.D *ℤ e.X) (e.D *ℤ c.X) z.0, equal_of (c.D *ℤ e.Y) (e.D *ℤ c.Y) z.1)

-- any three points have a best disc, of the size `three_size`

-- a best disc of the rows, of the size s
abbrev pub Best : Fraction → List Constraint → Type 0
Best s F = (c : Circle) × Optimal c F × frac_same (disc_size (disc c)) s

pub triangle_size : (p q r : Constraint) (h : pos 0 <ℤ (turn p q r *ℤ turn p q r)) → frac_same (disc_size (disc (triangle p q r h))) (circle_size p q r)
triangle_size p q r h = over_same (turn p q r *ℤ turn p q r *ℤ sides p q r) (sides p q r) (square_pos (triangle p q r h)) (mul_pos {a = pos 4} {b = turn p q r *ℤ turn p q r} (record { lt = tt }) h)
    (ring2 (λ k s. k ⊗ k ⊗ s ⊗ (num 4 ⊗ (k ⊗ k)) ≐ s ⊗ (num 2 ⊗ (k ⊗ k) ⊗ (num 2 ⊗ (k ⊗ k)))) refl (turn p q r) (sides p q r))

-- the circle on two of three rows
on_two : (p q r : Constraint) → corner p q r ≤ℤ pos 0 → (x : Constraint) → In x (p ∷ q ∷ r ∷ []) → KeepsPoint (disc (pair q r)) x
on_two p q r l x (inl e) = subst (λ z. KeepsPoint (disc (pair q r)) z) (sym e) (pair_keeps q r p l)
on_two p q r l x (inr (inl e)) = subst (λ z. KeepsPoint (disc (pair q r)) z) (sym e) (pair_first q r)
on_two p q r l x (inr (inr (inl e))) = subst (λ z. KeepsPoint (disc (pair q r)) z) (sym e) (pair_second q r)
on_two p q r l x (inr (inr (inr i))) = absurd i

turn_in : {p q r : Constraint} (x : Constraint) → In x (p ∷ q ∷ r ∷ []) → In x (q ∷ r ∷ p ∷ [])
turn_in x (inl e) = inr (inr (inl e))
turn_in x (inr (inl e)) = inl e
turn_in x (inr (inr (inl e))) = inr (inl e)
turn_in x (inr (inr (inr i))) = absurd i

-- where a corner is not acute
pub blunt_p : (p q r : Constraint) → corner p q r ≤ℤ pos 0 → Best (pair_size q r) (p ∷ q ∷ r ∷ [])
blunt_p p q r l = (pair q r, pair_best q r (p ∷ q ∷ r ∷ []) (inr (inl refl)) (inr (inr (inl refl))) (on_two p q r l), refl)

pub blunt_q : (p q r : Constraint) → corner q r p ≤ℤ pos 0 → Best (pair_size r p) (p ∷ q ∷ r ∷ [])
blunt_q p q r l = (pair r p, pair_best r p (p ∷ q ∷ r ∷ []) (inr (inr (inl refl))) (inl refl) (λ x i. on_two q r p l x (turn_in x i)), refl)

pub blunt_r : (p q r : Constraint) → corner r p q ≤ℤ pos 0 → Best (pair_size p q) (p ∷ q ∷ r ∷ [])
blunt_r p q r l = (pair p q, pair_best p q (p ∷ q ∷ r ∷ []) (inl refl) (inr (inl refl)) (λ x i. on_two r p q l x (turn_in x (turn_in x i))), refl)

pub acute : (p q r : Constraint) → Acute p q r → Best (circle_size p q r) (p ∷ q ∷ r ∷ [])
acute p q r a = (triangle p q r (turn_pos p q r a), triangle_best p q r a, triangle_size p q r (turn_pos p q r a))

pub best_of_three : (p q r : Constraint) → Best (three_size p q r) (p ∷ q ∷ r ∷ [])
best_of_three p q r = at_p (lt_z (pos 0) (corner p q r)) refl
  where
    at_r : pos 0 <ℤ corner p q r → pos 0 <ℤ corner q r p → (b : Bool) → lt_z (pos 0) (corner r p q) ≡ b →
        Best (elim b as (λ x. Fraction) [ false ↦ pair_size p q | true ↦ circle_size p q r ]) (p ∷ q ∷ r ∷ [])
    at_r i j true e = acute p q r (record { at_p = i; at_q = j; at_r = lt_z_out e })
    at_r i j false e = blunt_r p q r (lt_z_false e)

    at_q : pos 0 <ℤ corner p q r → (b : Bool) → lt_z (pos 0) (corner q r p) ≡ b →
        Best (elim b as (λ x. Fraction) [ false ↦ pair_size r p | true ↦ elim (lt_z (pos 0) (corner r p q)) [ false ↦ pair_size p q | true ↦ circle_size p q r ] ]) (p ∷ q ∷ r ∷ [])
    at_q i true e = at_r i (lt_z_out e) (lt_z (pos 0) (corner r p q)) refl
    at_q i false e = blunt_q p q r (lt_z_false e)

    at_p : (b : Bool) → lt_z (pos 0) (corner p q r) ≡ b →
        Best (elim b as (λ x. Fraction) [ false ↦ pair_size q r | true ↦ elim (lt_z (pos 0) (corner q r p)) [ false ↦ pair_size r p | true ↦ elim (lt_z (pos 0) (corner r p q)) [ false ↦ pair_size p q | true ↦ circle_size p q r ] ] ]) (p ∷ q ∷ r ∷ [])
    at_p true e = at_q (lt_z_out e) (lt_z (pos 0) (corner q r p)) refl
    at_p false e = blunt_p p q r (lt_z_false e)

-- the centres within a size of a point are a convex set

-- (X/D, Y/D) is within s of the point of h: the squared distance is at most s
pub record Near (s : Fraction) (h : Constraint) (c : Point) : Type 0 where
  pub near : (denominator s *ℤ from_centre c.X c.Y c.D h) ≤ℤ (s.numerator *ℤ (c.D *ℤ c.D))

pub near_convex : (s : Fraction) (h : Constraint) → Convex (Near s h)
near_convex s h = record {
  scale = λ k hk c n. record {
    near = le_by (mul_nonneg (sq_nonneg k) (nonneg_diff n.near))
        (ring8 (λ n m a b x y d k. n ⊗ ((k ⊗ d) ⊗ (k ⊗ d)) ⊖ m ⊗ from_centreE (k ⊗ x) (k ⊗ y) (k ⊗ d) a b ≐ k ⊗ k ⊗ (n ⊗ (d ⊗ d) ⊖ m ⊗ from_centreE x y d a b)) refl s.numerator (denominator s) h.a h.b c.X c.Y c.D k);
  };
  sum = λ c e i j. record {
    near = le_by_mul {d = c.D *ℤ e.D} (mul_pos c.positive e.positive)
        (add_nonneg
        (add_nonneg
        (mul_nonneg (mul_nonneg (le_of_lt c.positive) (le_of_lt e.positive)) (add_nonneg (nonneg_diff i.near) (nonneg_diff j.near)))
        (mul_nonneg (le_of_lt (denominator_pos s)) (sq_sum (c.D *ℤ e.X -ℤ e.D *ℤ c.X) (c.D *ℤ e.Y -ℤ e.D *ℤ c.Y))))
        (add_nonneg (mul_nonneg (sq_nonneg e.D) (nonneg_diff i.near)) (mul_nonneg (sq_nonneg c.D) (nonneg_diff j.near))))
        (ring10 (λ n m a b x y d u v w.
        d ⊗ w ⊗ (n ⊗ ((d ⊕ w) ⊗ (d ⊕ w)) ⊖ m ⊗ from_centreE (x ⊕ u) (y ⊕ v) (d ⊕ w) a b)
        ≐ ((d ⊗ w) ⊗ ((n ⊗ (d ⊗ d) ⊖ m ⊗ from_centreE x y d a b) ⊕ (n ⊗ (w ⊗ w) ⊖ m ⊗ from_centreE u v w a b)) ⊕ m ⊗ squaresE (d ⊗ u ⊖ w ⊗ x) (d ⊗ v ⊖ w ⊗ y))
        ⊕ (w ⊗ w ⊗ (n ⊗ (d ⊗ d) ⊖ m ⊗ from_centreE x y d a b) ⊕ d ⊗ d ⊗ (n ⊗ (w ⊗ w) ⊖ m ⊗ from_centreE u v w a b))) refl
        s.numerator (denominator s) h.a h.b c.X c.Y c.D e.X e.Y e.D);
  };
}
