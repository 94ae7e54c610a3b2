-- When a list stands: the values of one, two and three rows, compared.
use Rattle.std.proofs.Common.{◌≡◌, ◌<◌, true, false, ◌↔◌, List, [], ◌∷◌, length, ℤ, pos, ◌-ℤ◌, ◌*ℤ◌, ◌<ℤ◌, sym, refl, ap, ◌∙◌, subst, inl, inr, ⊎_elim, arith}
use Rattle.std.proofs.lemmas.Int.{by_lt_z}
use Rattle.std.proofs.lemmas.Bool.{both_ways, cases_Bool}
use Rattle.rows.specs.declared.row.Constraint.{Constraint}
use Rattle.lptype.specs.Meaning.{Admitted, Stands, Raises}
use Rattle.lptype.proofs.Standing.{stands_by, too_long}
use Rattle.algebra.specs.Fraction.{Fraction, whole, frac_le, frac_same}
use Rattle.algebra.proofs.Ring.{num, ◌⊖◌, ◌⊗◌, ◌≐◌, ring1, ring2, ring4, ring6}
use Rattle.algebra.proofs.Order.{lin, lt_by, antisym, mul_pos, squares_zero}
use Rattle.algebra.proofs.Fractions.{fraction_antisym, fraction_trans, fraction_same_le}
use Rattle.circles.specs.Angles.{squares, apart, corner, turn, Differ, Acute}
use Rattle.circles.specs.Discs.{Circle, DiscRival, empty_disc, disc, KeepsPoint, minus_one, disc_size, pair_size, circle_size, greatest, discs}
use Rattle.circles.proofs.Quoted.{squaresE, apartE, cornerE, turnE, sidesE}
use Rattle.circles.proofs.Sizes.{same_trans, less_by, over_less}
use Rattle.circles.proofs.Optimal.{Optimal, sq_sum, single, single_best, pair, pair_first, pair_second, pair_best, sides, side_pos, turned, turn_pos}
use Rattle.circles.proofs.Centres.{no_larger, Best, blunt_p, blunt_q, blunt_r, acute}
use Rattle.circles.proofs.Values.{KeepsEach, disc_above, least, attained, quiet, discs_laws}

-- the size of a best disc is the value, and it keeps exactly the rows that do not raise the value

module _ (c : Circle) (x : Constraint) (F : List Constraint) (o : Optimal c (x ∷ F)) where
  below_any : (r : DiscRival) → KeepsEach r (x ∷ F) → frac_le (disc_size (disc c)) (disc_size r) ≡ true
  below_any empty_disc k = absurd (k x (inl refl))
  below_any (disc e) k = no_larger c (x ∷ F) o e k

  pub optimal_value : frac_same (disc_size (disc c)) (greatest (x ∷ F))
  optimal_value = let r = attained (x ∷ F) in fraction_antisym (disc_size (disc c)) (greatest (x ∷ F))
      (fraction_trans (disc_size (disc c)) (disc_size r.0) (greatest (x ∷ F)) (below_any r.0 r.1) (fraction_same_le (disc_size r.0) (greatest (x ∷ F)) r.2).0)
      (least (x ∷ F) (disc c) o.all)

  pub optimal_raises : (h : Constraint) → Raises discs (x ∷ F) h ↔ (¬ KeepsPoint (disc c) h)
  optimal_raises h = (
    (λ u k. both_ways (frac_le (greatest (h ∷ x ∷ F)) (greatest (x ∷ F))) u
        (fraction_trans (greatest (h ∷ x ∷ F)) (disc_size (disc c)) (greatest (x ∷ F))
        (least (h ∷ x ∷ F) (disc c) (λ y. elim [ inl e ↦ subst (λ z. KeepsPoint (disc c) z) (sym e) k | inr i ↦ o.all y i ]))
        (fraction_same_le (disc_size (disc c)) (greatest (x ∷ F)) optimal_value).0)),
    (λ n. ⊎_elim (λ q. absurd (n (quiet (x ∷ F) h (disc c) o.all optimal_value q))) (λ q. q) (cases_Bool (frac_le (greatest (h ∷ x ∷ F)) (greatest (x ∷ F))))),
  )

best_value : (s : Fraction) (x : Constraint) (F : List Constraint) → Best s (x ∷ F) → frac_same s (greatest (x ∷ F))
best_value s x F b = same_trans s (disc_size (disc b.0)) (greatest (x ∷ F)) (sym b.2) (optimal_value b.0 x F b.1)

one_value : (p : Constraint) → frac_same (whole (pos 0)) (greatest (p ∷ []))
one_value p = optimal_value (single p) p [] (single_best p)

-- the circle on p and q, whichever comes first
pub two_best : (p q : Constraint) → Optimal (pair p q) (p ∷ q ∷ [])
two_best p q = pair_best p q (p ∷ q ∷ []) (inl refl) (inr (inl refl))
    (λ x. elim [ inl e ↦ subst (λ z. KeepsPoint (disc (pair p q)) z) (sym e) (pair_first p q) | inr (inl e) ↦ subst (λ z. KeepsPoint (disc (pair p q)) z) (sym e) (pair_second p q) | inr (inr i) ↦ absurd i ])

two_value : (p q : Constraint) → frac_same (pair_size p q) (greatest (p ∷ q ∷ []))
two_value p q = optimal_value (pair p q) p (q ∷ []) (two_best p q)

two_swap : (p q : Constraint) → frac_same (pair_size q p) (pair_size p q)
two_swap p q = ring4 (λ pa pb qa qb. apartE qa qb pa pb ⊗ num 4 ≐ apartE pa pb qa qb ⊗ num 4) refl p.a p.b q.a q.b

-- differing points

pub apart_pos : (p q : Constraint) → Differ p q → pos 0 <ℤ apart p q
apart_pos p q n = by_lt_z (pos 0) (apart p q) (λ l. l)
    (λ l. let z = squares_zero (p.a -ℤ q.a) (p.b -ℤ q.b) (antisym l (sq_sum (p.a -ℤ q.a) (p.b -ℤ q.b))) in
    absurd (n (equal_of p.a q.a z.0, equal_of p.b q.b z.1)))
  where
    equal_of : (a b : ℤ) → a -ℤ b ≡ pos 0 → a ≡ b
    equal_of a b h = omega (arith, lin)

pub apart_same : (p q : Constraint) → p.a ≡ q.a → p.b ≡ q.b → apart p q ≡ pos 0
apart_same p q e f = ap (λ (z : ℤ). squares (z -ℤ q.a) (p.b -ℤ q.b)) e ∙ ap (λ (z : ℤ). squares (q.a -ℤ q.a) (z -ℤ q.b)) f
    ∙ ring2 (λ a b. squaresE (a ⊖ a) (b ⊖ b) ≐ num 0) refl q.a q.b

pub apart_differ : (p q : Constraint) → pos 0 <ℤ apart p q → Differ p q
apart_differ p q l e = absurd (subst (λ (z : ℤ). pos 0 <ℤ z) (apart_same p q e.0 e.1) l).lt

-- none and one

pub violates_none : (h : Constraint) → Raises discs [] h
unfolding greatest
violates_none h = ⊎_elim
    (λ l. absurd (disc_above (single h) (fraction_trans (disc_size (disc (single h))) (greatest (h ∷ [])) minus_one (fraction_same_le (disc_size (disc (single h))) (greatest (h ∷ [])) (one_value h)).0 l)))
    (λ l. l)
    (cases_Bool (frac_le (greatest (h ∷ [])) minus_one))

pub stands_none : Stands discs []
stands_none = stands_by discs [] tt

pub stands_one : (p : Constraint) → Stands discs (p ∷ [])
stands_one p = stands_by discs (p ∷ []) (violates_none p, tt)

-- two

-- a point is smaller than the circle on two that differ
one_less : (h p q : Constraint) → pos 0 <ℤ apart p q → frac_le (greatest (p ∷ q ∷ [])) (greatest (h ∷ [])) ≡ false
one_less h p q l = less_by (greatest (p ∷ q ∷ [])) (pair_size p q) (greatest (h ∷ [])) (whole (pos 0)) (two_value p q) (one_value h)
    (over_less (pos 0) (apart p q) {b = pos 1} {d = pos 4} (record { lt = tt }) (record { lt = tt }) (lt_by l (ring1 (λ z. z ⊗ num 1 ⊖ num 0 ⊗ num 4 ≐ z) refl (apart p q))))

pub stands_two : (p q : Constraint) → Stands discs (p ∷ q ∷ []) ↔ Differ p q
stands_two p q = (
  (λ s e. both_ways (frac_le (greatest (p ∷ q ∷ [])) (greatest (q ∷ []))) (s.without [] (q ∷ []) p refl)
      (fraction_trans (greatest (p ∷ q ∷ [])) (pair_size p q) (greatest (q ∷ [])) (fraction_same_le (pair_size p q) (greatest (p ∷ q ∷ [])) (two_value p q)).1
      (fraction_trans (pair_size p q) (whole (pos 0)) (greatest (q ∷ []))
      (fraction_same_le (pair_size p q) (whole (pos 0)) (ap (λ (z : ℤ). z *ℤ pos 1) (apart_same p q e.0 e.1))).0
      (fraction_same_le (whole (pos 0)) (greatest (q ∷ [])) (one_value q)).0))),
  (λ n. stands_by discs (p ∷ q ∷ []) (one_less q p q (apart_pos p q n), (one_less p p q (apart_pos p q n), tt))),
)

-- three

-- the circle on two corners is smaller than the one through all three
acute_less : (p q r x y : Constraint) (m : ℤ) → Acute p q r → pos 0 <ℤ apart x y → pos 0 <ℤ m →
    sides p q r *ℤ pos 4 -ℤ apart x y *ℤ (pos 4 *ℤ (turn p q r *ℤ turn p q r)) ≡ pos 4 *ℤ (apart x y *ℤ (m *ℤ m)) →
    frac_le (greatest (p ∷ q ∷ r ∷ [])) (greatest (x ∷ y ∷ [])) ≡ false
acute_less p q r x y m a l i e =
    less_by (greatest (p ∷ q ∷ r ∷ [])) (circle_size p q r) (greatest (x ∷ y ∷ [])) (pair_size x y) (best_value (circle_size p q r) p (q ∷ r ∷ []) (acute p q r a)) (two_value x y)
    (over_less (apart x y) (sides p q r) {b = pos 4} {d = pos 4 *ℤ (turn p q r *ℤ turn p q r)} (record { lt = tt }) (mul_pos {a = pos 4} {b = turn p q r *ℤ turn p q r} (record { lt = tt }) (turn_pos p q r a))
    (lt_by (mul_pos {a = pos 4} {b = apart x y *ℤ (m *ℤ m)} (record { lt = tt }) (mul_pos l (mul_pos i i))) e))

-- the circle on two corners is no smaller where it holds the third
blunt_most : (p q r x y u v : Constraint) → Best (pair_size x y) (p ∷ q ∷ r ∷ []) → frac_same (pair_size x y) (pair_size u v) → frac_le (greatest (p ∷ q ∷ r ∷ [])) (greatest (u ∷ v ∷ [])) ≡ true
blunt_most p q r x y u v b e =
    fraction_trans (greatest (p ∷ q ∷ r ∷ [])) (pair_size x y) (greatest (u ∷ v ∷ [])) (fraction_same_le (pair_size x y) (greatest (p ∷ q ∷ r ∷ [])) (best_value (pair_size x y) p (q ∷ r ∷ []) b)).1
    (fraction_trans (pair_size x y) (pair_size u v) (greatest (u ∷ v ∷ [])) (fraction_same_le (pair_size x y) (pair_size u v) e).0 (fraction_same_le (pair_size u v) (greatest (u ∷ v ∷ [])) (two_value u v)).0)

pub stands_acute : (p q r : Constraint) → Stands discs (p ∷ q ∷ r ∷ []) → Acute p q r
stands_acute p q r s = record {
  at_p = by_lt_z (pos 0) (corner p q r) (λ l. l) (λ l. absurd (both_ways (frac_le (greatest (p ∷ q ∷ r ∷ [])) (greatest (q ∷ r ∷ []))) (s.without [] (q ∷ r ∷ []) p refl) (blunt_most p q r q r q r (blunt_p p q r l) refl)));
  at_q = by_lt_z (pos 0) (corner q r p) (λ l. l) (λ l. absurd (both_ways (frac_le (greatest (p ∷ q ∷ r ∷ [])) (greatest (p ∷ r ∷ []))) (s.without (p ∷ []) (r ∷ []) q refl) (blunt_most p q r r p p r (blunt_q p q r l) (two_swap p r))));
  at_r = by_lt_z (pos 0) (corner r p q) (λ l. l) (λ l. absurd (both_ways (frac_le (greatest (p ∷ q ∷ r ∷ [])) (greatest (p ∷ q ∷ []))) (s.without (p ∷ q ∷ []) [] r refl) (blunt_most p q r p q p q (blunt_r p q r l) refl)));
}

acute_stands : (p q r : Constraint) → Acute p q r → Stands discs (p ∷ q ∷ r ∷ [])
acute_stands p q r a = stands_by discs (p ∷ q ∷ r ∷ []) (
  acute_less p q r q r (corner p q r) a (side_pos p q r a) a.at_p
      (ring6 (λ pa pb qa qb ra rb. sidesE pa pb qa qb ra rb ⊗ num 4 ⊖ apartE qa qb ra rb ⊗ (num 4 ⊗ (turnE pa pb qa qb ra rb ⊗ turnE pa pb qa qb ra rb)) ≐ num 4 ⊗ (apartE qa qb ra rb ⊗ (cornerE pa pb qa qb ra rb ⊗ cornerE pa pb qa qb ra rb))) refl p.a p.b q.a q.b r.a r.b),
  (
    acute_less p q r p r (corner q r p) a (subst (λ (z : ℤ). pos 0 <ℤ z) (ring4 (λ pa pb ra rb. apartE ra rb pa pb ≐ apartE pa pb ra rb) refl p.a p.b r.a r.b) (side_pos q r p (turned a))) a.at_q
        (ring6 (λ pa pb qa qb ra rb. sidesE pa pb qa qb ra rb ⊗ num 4 ⊖ apartE pa pb ra rb ⊗ (num 4 ⊗ (turnE pa pb qa qb ra rb ⊗ turnE pa pb qa qb ra rb)) ≐ num 4 ⊗ (apartE pa pb ra rb ⊗ (cornerE qa qb ra rb pa pb ⊗ cornerE qa qb ra rb pa pb))) refl p.a p.b q.a q.b r.a r.b),
    (
      acute_less p q r p q (corner r p q) a (side_pos r p q (turned (turned a))) a.at_r
          (ring6 (λ pa pb qa qb ra rb. sidesE pa pb qa qb ra rb ⊗ num 4 ⊖ apartE pa pb qa qb ⊗ (num 4 ⊗ (turnE pa pb qa qb ra rb ⊗ turnE pa pb qa qb ra rb)) ≐ num 4 ⊗ (apartE pa pb qa qb ⊗ (cornerE ra rb pa pb qa qb ⊗ cornerE ra rb pa pb qa qb))) refl p.a p.b q.a q.b r.a r.b),
      tt,
    ),
  ),
)

pub stands_three : (p q r : Constraint) → Stands discs (p ∷ q ∷ r ∷ []) ↔ Acute p q r
stands_three p q r = (stands_acute p q r, acute_stands p q r)

-- more than three

pub stands_more : (B : List Constraint) → Admitted discs B → 3 < length B → ¬ Stands discs B
stands_more B a l = too_long discs discs_laws B a l
