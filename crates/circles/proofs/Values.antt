-- The laws of the disc: the value by rivals, with a centre by Helly's theorem, and three rows that have it.
use Rattle.std.proofs.Common.{◌≡◌, ◌≤◌, true, List, [], ◌∷◌, length, ℤ, pos, negsuc, ◌-ℤ◌, ◌*ℤ◌, ◌≤ℤ◌, ◌<ℤ◌, sym, refl, ap, ◌∙◌, subst, inl, inr, arith}
use Rattle.rows.specs.declared.row.Constraint.{Constraint}
use Rattle.lptype.specs.Meaning.{Value, finite, top, In, Within}
use Rattle.lptype.specs.Laws.{Laws}
use Rattle.lptype.proofs.Inside.{all_in, all_from_in}
use Rattle.lptype.proofs.Derived.{laws}
use Rattle.algebra.specs.Fraction.{Fraction, denominator, frac_le, frac_same}
use Rattle.algebra.specs.Point.{Point}
use Rattle.algebra.proofs.Ring.{num, lit, ◌⊕◌, ◌⊖◌, ◌⊗◌, ⊝, ◌≐◌, ring1, ring2, ring3, ring5, ring6, ring7}
use Rattle.algebra.proofs.Order.{lin, le_by, le_by_mul, le_of_lt, le_trans, cancel_eq, nonneg_diff, add_nonneg, mul_nonneg, mul_pos, sq_nonneg}
use Rattle.algebra.proofs.Fractions.{denominator_pos, fraction_refl, fraction_trans, fraction_total, fraction_antisym, fraction_same_le}
use Rattle.algebra.proofs.Helly.{Meet, AnyThree, helly}
use Rattle.circles.specs.Angles.{squares}
use Rattle.circles.specs.Discs.{Circle, DiscRival, empty_disc, disc, from_centre, KeepsPoint, minus_one, disc_size, three_size, most, greatest, discs}
use Rattle.circles.proofs.Quoted.{squaresE, from_centreE}
use Rattle.circles.proofs.Sizes.{over_le, le_over, over_same, most_above, most_hit}
use Rattle.circles.proofs.Centres.{square_pos, no_larger, centred, best_of_three, Near, near_convex}

abbrev pub KeepsEach : DiscRival → List Constraint → Type 0
KeepsEach r F = (x : Constraint) → In x F → KeepsPoint r x

-- the value is the greatest of three rows

pub above : (F : List Constraint) (x y z : Constraint) → In x F → In y F → In z F → frac_le (three_size x y z) (greatest F) ≡ true
unfolding greatest
above F x y z i j k =
    fraction_trans (three_size x y z) (most (λ c. three_size x y c) F) (greatest F) (most_above (λ c. three_size x y c) F z k)
    (fraction_trans (most (λ c. three_size x y c) F) (most (λ b. most (λ c. three_size x b c) F) F) (greatest F) (most_above (λ b. most (λ c. three_size x b c) F) F y j)
    (most_above (λ a. most (λ b. most (λ c. three_size a b c) F) F) F x i))

pub record Hit (F : List Constraint) : Type 0 where
  pub first : Constraint
  pub second : Constraint
  pub third : Constraint
  pub in_first : In first F
  pub in_second : In second F
  pub in_third : In third F
  pub is : greatest F ≡ three_size first second third

pub hit : (h : Constraint) (F : List Constraint) → Hit (h ∷ F)
unfolding greatest
hit h F =
    let a = most_hit (λ a. most (λ b. most (λ c. three_size a b c) (h ∷ F)) (h ∷ F)) h F in
    let b = most_hit (λ b. most (λ c. three_size a.0 b c) (h ∷ F)) h F in
    let c = most_hit (λ c. three_size a.0 b.0 c) h F in
    record { first = a.0; second = b.0; third = c.0; in_first = a.1; in_second = b.1; in_third = c.1; is = a.2 ∙ b.2 ∙ c.2 }

-- no rival that keeps all is below the value

pub empty_least : (r : DiscRival) → frac_le minus_one (disc_size r) ≡ true
empty_least empty_disc = fraction_refl minus_one
empty_least (disc c) = over_le (negsuc 0) c.Q {b = pos 1} (record { lt = tt }) (square_pos c)
    (le_by (add_nonneg c.nonneg (sq_nonneg c.D)) (ring2 (λ q d. q ⊗ num 1 ⊖ lit (negsuc 0) ⊗ (d ⊗ d) ≐ q ⊕ d ⊗ d) refl c.Q c.D))

below_zero : (q s : ℤ) → (q *ℤ pos 1) ≤ℤ (negsuc 0 *ℤ s) → pos 0 ≤ℤ q → pos 0 <ℤ s → ⊥
below_zero q s h i j = omega (arith, lin, ring1 (λ q. q ⊗ num 1 ≐ q) refl q, ring1 (λ s. lit (negsuc 0) ⊗ s ≐ ⊝ s) refl s)

pub disc_above : (c : Circle) → frac_le (disc_size (disc c)) minus_one ≡ true → ⊥
disc_above c l = below_zero c.Q (c.D *ℤ c.D) (le_over c.Q (negsuc 0) {d = pos 1} (square_pos c) (record { lt = tt }) l) c.nonneg (square_pos c)

-- a rival that keeps three rows keeps each of a list of them
keeps_three : (r : DiscRival) {x y z : Constraint} → KeepsPoint r x → KeepsPoint r y → KeepsPoint r z → KeepsEach r (x ∷ y ∷ z ∷ [])
keeps_three r i j k w (inl e) = subst (λ v. KeepsPoint r v) (sym e) i
keeps_three r i j k w (inr (inl e)) = subst (λ v. KeepsPoint r v) (sym e) j
keeps_three r i j k w (inr (inr (inl e))) = subst (λ v. KeepsPoint r v) (sym e) k
keeps_three r i j k w (inr (inr (inr m))) = absurd m

keeps_hit : (r : DiscRival) {F : List Constraint} (t : Hit F) → KeepsEach r F → KeepsEach r (t.first ∷ t.second ∷ t.third ∷ [])
keeps_hit r t k = keeps_three r (k t.first t.in_first) (k t.second t.in_second) (k t.third t.in_third)

pub least : (F : List Constraint) (r : DiscRival) → KeepsEach r F → frac_le (greatest F) (disc_size r) ≡ true
unfolding greatest
least [] r k = empty_least r
least (h ∷ F) empty_disc k = absurd (k h (inl refl))
least (h ∷ F) (disc e) k =
    let t = hit h F in
    let c = best_of_three t.first t.second t.third in
    subst (λ s. frac_le s (disc_size (disc e)) ≡ true) (sym t.is)
    (fraction_trans (three_size t.first t.second t.third) (disc_size (disc c.0)) (disc_size (disc e)) (fraction_same_le (disc_size (disc c.0)) (three_size t.first t.second t.third) c.2).1
    (no_larger c.0 (t.first ∷ t.second ∷ t.third ∷ []) c.1 e (keeps_hit (disc e) t k)))

-- a rival that keeps all has the value as its size

-- the centre of a circle
abbrev centre_of : Circle → Point
centre_of c = record { X = c.X; Y = c.Y; D = c.D; positive = c.positive }

-- a disc no larger than s, round a centre within s of what it keeps
within : (s : Fraction) (c : Circle) (h : Constraint) → frac_le (disc_size (disc c)) s ≡ true → KeepsPoint (disc c) h → Near s h (centre_of c)
within s c h l k = record {
  near = le_by (add_nonneg (mul_nonneg (le_of_lt (denominator_pos s)) (nonneg_diff k)) (nonneg_diff (le_over c.Q s.numerator {d = denominator s} (square_pos c) (denominator_pos s) l)))
      (ring5 (λ n m q d w. n ⊗ (d ⊗ d) ⊖ m ⊗ w ≐ m ⊗ (q ⊖ w) ⊕ (n ⊗ (d ⊗ d) ⊖ q ⊗ m)) refl s.numerator (denominator s) c.Q c.D (from_centre c.X c.Y c.D h));
}

-- the disc of the size s round a centre that is within s of some row
grown : (s : Fraction) (c : Point) (h : Constraint) → Near s h c → Circle
grown s c h n = record {
  X = denominator s *ℤ c.X;
  Y = denominator s *ℤ c.Y;
  Q = denominator s *ℤ (s.numerator *ℤ (c.D *ℤ c.D));
  D = denominator s *ℤ c.D;
  positive = mul_pos (denominator_pos s) c.positive;
  nonneg = mul_nonneg (le_of_lt (denominator_pos s)) (le_trans (mul_nonneg (le_of_lt (denominator_pos s)) (add_nonneg (sq_nonneg (c.D *ℤ h.a -ℤ c.X)) (sq_nonneg (c.D *ℤ h.b -ℤ c.Y)))) n.near);
}

grown_keeps : (s : Fraction) (c : Point) (h : Constraint) (n : Near s h c) (x : Constraint) → Near s x c → KeepsPoint (disc (grown s c h n)) x
unfolding grown
grown_keeps s c h n x m = le_by (mul_nonneg (le_of_lt (denominator_pos s)) (nonneg_diff m.near))
    (ring7 (λ n m x y d a b. m ⊗ (n ⊗ (d ⊗ d)) ⊖ from_centreE (m ⊗ x) (m ⊗ y) (m ⊗ d) a b ≐ m ⊗ (n ⊗ (d ⊗ d) ⊖ m ⊗ from_centreE x y d a b)) refl s.numerator (denominator s) c.X c.Y c.D x.a x.b)

grown_size : (s : Fraction) (c : Point) (h : Constraint) (n : Near s h c) → frac_same (disc_size (disc (grown s c h n))) s
unfolding grown
grown_size s c h n = over_same (denominator s *ℤ (s.numerator *ℤ (c.D *ℤ c.D))) s.numerator {d = denominator s} (square_pos (grown s c h n)) (denominator_pos s)
    (ring3 (λ n m d. m ⊗ (n ⊗ (d ⊗ d)) ⊗ m ≐ n ⊗ (m ⊗ d ⊗ (m ⊗ d))) refl s.numerator (denominator s) c.D)

three_near : (F : List Constraint) (x y z : Constraint) → In x F → In y F → In z F → Meet (Near (greatest F)) x y z
three_near F x y z i j k =
    let c = best_of_three x y z in
    let l : frac_le (disc_size (disc c.0)) (greatest F) ≡ true
    = fraction_trans (disc_size (disc c.0)) (three_size x y z) (greatest F) (fraction_same_le (disc_size (disc c.0)) (three_size x y z) c.2).0 (above F x y z i j k) in (
      centre_of c.0,
      within (greatest F) c.0 x l (c.1.all x (inl refl)),
      within (greatest F) c.0 y l (c.1.all y (inr (inl refl))),
      within (greatest F) c.0 z l (c.1.all z (inr (inr (inl refl)))),
    )

any_near : (F : List Constraint) → AnyThree (Near (greatest F)) F
any_near F = all_from_in _ F (λ x i. all_from_in _ F (λ y j. all_from_in _ F (λ z k. three_near F x y z i j k)))

pub attained : (F : List Constraint) → (r : DiscRival) × KeepsEach r F × frac_same (disc_size r) (greatest F)
unfolding greatest
attained [] = (empty_disc, (λ x i. absurd i), refl)
attained (h ∷ F) =
    let s = greatest (h ∷ F) in
    let c = helly (Near s) (near_convex s) (h ∷ F) (any_near (h ∷ F)) in
    let n = c.1.0 in
    (disc (grown s c.0 h n), (λ x i. grown_keeps s c.0 h n x (all_in (λ y. Near s y c.0) (h ∷ F) x c.1 i)), grown_size s c.0 h n)

-- a rival that keeps all at the value also keeps a row that does not raise it

-- two discs round one centre
meet : (w d b x u a : ℤ) → pos 0 <ℤ w → w *ℤ x ≡ d *ℤ a → w *ℤ u ≡ b *ℤ a → b *ℤ x ≡ d *ℤ u
meet w d b x u a h e f = cancel_eq h
    (ring3 (λ w b x. b ⊗ x ⊗ w ≐ b ⊗ (w ⊗ x)) refl w b x ∙ ap (λ (z : ℤ). b *ℤ z) e
    ∙ ring3 (λ d b a. b ⊗ (d ⊗ a) ≐ d ⊗ (b ⊗ a)) refl d b a ∙ ap (λ (z : ℤ). d *ℤ z) (sym f) ∙ ring3 (λ w d u. d ⊗ (w ⊗ u) ≐ d ⊗ u ⊗ w) refl w d u)

pub moved : (x y d u v b : ℤ) (h : Constraint) → b *ℤ x ≡ d *ℤ u → b *ℤ y ≡ d *ℤ v → b *ℤ b *ℤ from_centre x y d h ≡ d *ℤ d *ℤ from_centre u v b h
moved x y d u v b h e f =
    ring6 (λ x y d b a c. b ⊗ b ⊗ from_centreE x y d a c ≐ squaresE (b ⊗ d ⊗ a ⊖ b ⊗ x) (b ⊗ d ⊗ c ⊖ b ⊗ y)) refl x y d b h.a h.b
    ∙ ap (λ (z : ℤ). squares (b *ℤ d *ℤ h.a -ℤ z) (b *ℤ d *ℤ h.b -ℤ b *ℤ y)) e
    ∙ ap (λ (z : ℤ). squares (b *ℤ d *ℤ h.a -ℤ d *ℤ u) (b *ℤ d *ℤ h.b -ℤ z)) f
    ∙ ring6 (λ u v d b a c. squaresE (b ⊗ d ⊗ a ⊖ d ⊗ u) (b ⊗ d ⊗ c ⊖ d ⊗ v) ≐ d ⊗ d ⊗ from_centreE u v b a c) refl u v d b h.a h.b

larger_keeps : (e f : Circle) (h : Constraint) → f.D *ℤ e.X ≡ e.D *ℤ f.X → f.D *ℤ e.Y ≡ e.D *ℤ f.Y → frac_le (disc_size (disc f)) (disc_size (disc e)) ≡ true → KeepsPoint (disc f) h → KeepsPoint (disc e) h
larger_keeps e f h i j l k = le_by_mul {d = f.D *ℤ f.D} (square_pos f)
    (add_nonneg (nonneg_diff (le_over f.Q e.Q (square_pos f) (square_pos e) l)) (mul_nonneg (sq_nonneg e.D) (nonneg_diff k)))
    (ring3 (λ b q w. b ⊗ b ⊗ (q ⊖ w) ≐ q ⊗ (b ⊗ b) ⊖ b ⊗ b ⊗ w) refl f.D e.Q (from_centre e.X e.Y e.D h)
    ∙ ap (λ (z : ℤ). e.Q *ℤ (f.D *ℤ f.D) -ℤ z) (moved e.X e.Y e.D f.X f.Y f.D h i j)
    ∙ ring5 (λ q b r d w. q ⊗ (b ⊗ b) ⊖ d ⊗ d ⊗ w ≐ (q ⊗ (b ⊗ b) ⊖ r ⊗ (d ⊗ d)) ⊕ d ⊗ d ⊗ (r ⊖ w)) refl e.Q f.D f.Q e.D (from_centre f.X f.Y f.D h))

-- a disc that keeps all of F at its value, and one no larger that keeps F and h
both_keep : (y : Constraint) (F : List Constraint) (h : Constraint) (b c : Circle) → KeepsEach (disc b) (y ∷ F) → frac_same (disc_size (disc b)) (greatest (y ∷ F)) → KeepsEach (disc c) (y ∷ F) → frac_le (disc_size (disc c)) (greatest (y ∷ F)) ≡ true → KeepsPoint (disc c) h → KeepsPoint (disc b) h
both_keep y F h b c k e m l n =
    let t = hit y F in
    let T = t.first ∷ t.second ∷ t.third ∷ [] in
    let o = best_of_three t.first t.second t.third in
    let s = disc_size (disc o.0) in
    let g : frac_le (greatest (y ∷ F)) s ≡ true = subst (λ v. frac_le v s ≡ true) (sym t.is) (fraction_same_le s (three_size t.first t.second t.third) o.2).1 in
    let zb = centred o.0 T o.1 b (keeps_hit (disc b) t k) (fraction_trans (disc_size (disc b)) (greatest (y ∷ F)) s (fraction_same_le (disc_size (disc b)) (greatest (y ∷ F)) e).0 g) in
    let zc = centred o.0 T o.1 c (keeps_hit (disc c) t m) (fraction_trans (disc_size (disc c)) (greatest (y ∷ F)) s l g) in
    larger_keeps b c h
    (meet o.0.D b.D c.D b.X c.X o.0.X o.0.positive zb.0 zc.0)
    (meet o.0.D b.D c.D b.Y c.Y o.0.Y o.0.positive zb.1 zc.1)
    (fraction_trans (disc_size (disc c)) (greatest (y ∷ F)) (disc_size (disc b)) l (fraction_same_le (disc_size (disc b)) (greatest (y ∷ F)) e).1)
    n

pub quiet : (F : List Constraint) (h : Constraint) (r : DiscRival) → KeepsEach r F → frac_same (disc_size r) (greatest F) → frac_le (greatest (h ∷ F)) (greatest F) ≡ true → KeepsPoint r h
unfolding greatest
quiet F h r k e q = go F r k e q (attained (h ∷ F))
  where
    go : (F : List Constraint) (r : DiscRival) → KeepsEach r F → frac_same (disc_size r) (greatest F) → frac_le (greatest (h ∷ F)) (greatest F) ≡ true → (t : DiscRival) × KeepsEach t (h ∷ F) × frac_same (disc_size t) (greatest (h ∷ F)) → KeepsPoint r h
    go F r k e q (empty_disc, m, f) = absurd (m h (inl refl))
    go [] r k e q (disc c, m, f) = absurd (disc_above c (fraction_trans (disc_size (disc c)) (greatest (h ∷ [])) minus_one (fraction_same_le (disc_size (disc c)) (greatest (h ∷ [])) f).0 q))
    go (y ∷ F) empty_disc k e q (disc c, m, f) = absurd (k y (inl refl))
    go (y ∷ F) (disc b) k e q (disc c, m, f) = both_keep y F h b c k e (λ x i. m x (inr i)) (fraction_trans (disc_size (disc c)) (greatest (h ∷ y ∷ F)) (greatest (y ∷ F)) (fraction_same_le (disc_size (disc c)) (greatest (h ∷ y ∷ F)) f).0 q) (m h (inl refl))

-- three rows have the value

pub few : (F : List Constraint) → (B : List Constraint) × Within B F × (length B ≤ 3) × frac_same (greatest B) (greatest F)
few [] = ([], (λ x i. i), omega arith, refl)
few (h ∷ F) =
    let t = hit h F in
    let B = t.first ∷ t.second ∷ t.third ∷ [] in
    let w : Within B (h ∷ F) = λ x. elim [ inl e ↦ subst (λ v. In v (h ∷ F)) (sym e) t.in_first | inr (inl e) ↦ subst (λ v. In v (h ∷ F)) (sym e) t.in_second | inr (inr (inl e)) ↦ subst (λ v. In v (h ∷ F)) (sym e) t.in_third | inr (inr (inr i)) ↦ absurd i ] in
    let r = attained (h ∷ F) in (
      B,
      w,
      omega arith,
      fraction_antisym (greatest B) (greatest (h ∷ F))
          (fraction_trans (greatest B) (disc_size r.0) (greatest (h ∷ F)) (least B r.0 (λ x i. r.1 x (w x i))) (fraction_same_le (disc_size r.0) (greatest (h ∷ F)) r.2).0)
          (subst (λ s. frac_le s (greatest B) ≡ true) (sym t.is) (above B t.first t.second t.third (inl refl) (inr (inl refl)) (inr (inr (inl refl))))),
    )

-- the laws

size_of : Fraction → Value Fraction → Fraction
size_of d (finite s) = s
size_of d top = d

finite_is : (s t : Fraction) → finite s ≡ finite t → s ≡ t
unfolding size_of
finite_is s t e = ap (size_of s) e

Finite : Value Fraction → Type 0
Finite (finite s) = Unit {0}
Finite top = ⊥

never_top : (s : Fraction) → finite s ≡ top → ⊥
unfolding Finite
never_top s e = subst Finite e tt

pub discs_laws : Laws discs
discs_laws = laws discs (record {
  sizes = record {
    reflexive = fraction_refl;
    transitive = fraction_trans;
    comparable = fraction_total;
    antisymmetric = fraction_antisym;
    equal_le = fraction_same_le;
  };
  few = λ F a. few F;
  rivals = record {
    least = λ F r a k. least F r k;
    attained = λ F s a e. let r = attained F in (r.0, r.1, subst (frac_same (disc_size r.0)) (finite_is (greatest F) s e) r.2);
    none = λ F r a e k. never_top (greatest F) e;
    keeps_quiet = λ F h r a k e q. quiet F h r k e q;
  };
  dimension_positive = omega arith;
  dimension_small = omega arith;
})
