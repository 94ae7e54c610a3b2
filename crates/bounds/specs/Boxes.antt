-- The smallest box shows all laws: the order of sizes, four rows that have the value, and the value by rivals.
use Rattle.std.specs.Prelude.{◌≡◌, ◌≤◌, true, List, [], ◌∷◌, length, ℤ, pos, negsuc, ◌+ℤ◌, ◌*ℤ◌, neg_ℤ, ◌≤ℤ◌, ◌≢◌, refl}
use Rattle.std.proofs.Common.{sym, ◌∙◌, ap, subst, inl, arith}
use Rattle.rows.specs.declared.row.Constraint.{Constraint}
use Rattle.lptype.specs.Meaning.{Value, finite, top, In, Within, Admitted, Quiet, KeepsAll, SameValue}
use Rattle.lptype.specs.Laws.{Laws}
use Rattle.lptype.proofs.Order.{SizeOrder}
use Rattle.lptype.proofs.Derived.{laws}
use Rattle.algebra.specs.Fraction.{Fraction, whole, frac_le, frac_same, frac_add, frac_neg, frac_sub}
use Rattle.algebra.proofs.Laws.{neg_is_mul}
use Rattle.algebra.proofs.Ring.{num, ◌⊕◌, ◌⊖◌, ◌⊗◌, ⊝, ◌≐◌, ring4}
use Rattle.algebra.proofs.Order.{lin, le_trans, le_of_eq}
use Rattle.algebra.proofs.Fractions.{fraction_refl, fraction_trans, fraction_total, fraction_antisym, fraction_same_le, fraction_add_le, fraction_neg_le, fraction_sub_nonneg, whole_le, whole_out, whole_add}
use Rattle.bounds.specs.Bounds.{Box, BoxRival, empty_box, box, Between, KeepsPoint, box_size, greatest, least, spread, easting, northing, extent, boxes}
use Rattle.bounds.specs.Directions.{Direction, along, reach, stretch, Inside, greatest_hit, least_hit, greatest_cong, greatest_neg, few_reach, in_inside, inside_quiet, quiet_inside}

-- the four sides as directions

abbrev pub east : Direction
east = record { u = pos 1; v = pos 0 }

abbrev pub west : Direction
west = record { u = negsuc 0; v = pos 0 }

abbrev pub north : Direction
north = record { u = pos 0; v = pos 1 }

abbrev pub south : Direction
south = record { u = pos 0; v = negsuc 0 }

abbrev pub sides : List Direction
sides = east ∷ west ∷ north ∷ south ∷ []

first_of : (m n : ℤ) → pos 1 *ℤ m +ℤ pos 0 *ℤ n ≡ m
first_of m n = omega (arith, lin)

against_first : (m n : ℤ) → negsuc 0 *ℤ m +ℤ pos 0 *ℤ n ≡ neg_ℤ m
against_first m n = omega (arith, lin, neg_is_mul m)

second_of : (m n : ℤ) → pos 0 *ℤ m +ℤ pos 1 *ℤ n ≡ n
second_of m n = omega (arith, lin)

against_second : (m n : ℤ) → pos 0 *ℤ m +ℤ negsuc 0 *ℤ n ≡ neg_ℤ n
against_second m n = omega (arith, lin, neg_is_mul n)

module _ (x : Constraint) (F : List Constraint) where
  east_is : reach east x F ≡ greatest easting x F
  east_is = greatest_cong (along east) easting (λ z. first_of z.a z.b) x F

  west_is : reach west x F ≡ neg_ℤ (least easting x F)
  west_is = greatest_cong (along west) (λ z. neg_ℤ z.a) (λ z. against_first z.a z.b) x F ∙ greatest_neg easting x F

  north_is : reach north x F ≡ greatest northing x F
  north_is = greatest_cong (along north) northing (λ z. second_of z.a z.b) x F

  south_is : reach south x F ≡ neg_ℤ (least northing x F)
  south_is = greatest_cong (along south) (λ z. neg_ℤ z.b) (λ z. against_second z.a z.b) x F ∙ greatest_neg northing x F

  -- the value is the sum over the four directions
  pub extent_is : extent (x ∷ F) ≡ stretch sides x F
  extent_is = omega (arith, lin, east_is, west_is, north_is, south_is)

  -- the row lies between the least and the greatest, to the east and to the north
  abbrev pub BetweenSides : Constraint → Type 0
  BetweenSides h = (least easting x F ≤ℤ h.a) × (h.a ≤ℤ greatest easting x F) × (least northing x F ≤ℤ h.b) × (h.b ≤ℤ greatest northing x F)

  pub inside_sides : (h : Constraint) → Inside sides x F h → BetweenSides h
  inside_sides h i = (
    omega (arith, lin, i.1.0, west_is, against_first h.a h.b),
    omega (arith, lin, i.0, east_is, first_of h.a h.b),
    omega (arith, lin, i.1.1.1.0, south_is, against_second h.a h.b),
    omega (arith, lin, i.1.1.0, north_is, second_of h.a h.b),
  )

  pub sides_inside : (h : Constraint) → BetweenSides h → Inside sides x F h
  sides_inside h i = (
    omega (arith, lin, i.1, east_is, first_of h.a h.b),
    (
      omega (arith, lin, i.0, west_is, against_first h.a h.b),
      (
        omega (arith, lin, i.3, north_is, second_of h.a h.b),
        (omega (arith, lin, i.2, south_is, against_second h.a h.b), tt),
      ),
    ),
  )

  pub in_sides : (h : Constraint) → In h (x ∷ F) → BetweenSides h
  in_sides h i = inside_sides h (in_inside sides x F h i)

-- the order of sizes

sizes_ordered : SizeOrder boxes
sizes_ordered = record {
  reflexive = fraction_refl;
  transitive = fraction_trans;
  comparable = fraction_total;
  antisymmetric = fraction_antisym;
  equal_le = fraction_same_le;
}

-- equal whole numbers as sizes
whole_same : {m n : ℤ} → m ≡ n → frac_same (whole m) (whole n)
whole_same e = ap (λ (k : ℤ). k *ℤ pos 1) e

-- four rows that have the value

few : (F : List Constraint) → Admitted boxes F → (B : List Constraint) × Within B F × (length B ≤ 4) × SameValue boxes B F
few [] a = ([], (λ x i. i), omega arith, refl)
few (x ∷ F) a =
    let t = few_reach east (west ∷ north ∷ south ∷ []) x F in
    (t.0 ∷ t.1, t.2, omega (arith, t.3), whole_same (extent_is t.0 t.1 ∙ t.4 ∙ sym (extent_is x F)))

-- the value is least

-- two fractions with f of each row between them have the least and the greatest between them
module _ (f : Constraint → ℤ) (x : Constraint) (F : List Constraint) (p q : Fraction) (k : (y : Constraint) → In y (x ∷ F) → Between p (f y) q) where
  least_above : frac_le p (whole (least f x F)) ≡ true
  least_above = let t = least_hit f x F in subst (λ n. frac_le p (whole n) ≡ true) (sym t.2) (k t.0 t.1).0

  greatest_below : frac_le (whole (greatest f x F)) q ≡ true
  greatest_below = let t = greatest_hit f x F in subst (λ n. frac_le (whole n) q ≡ true) (sym t.2) (k t.0 t.1).1

  between_all : (n : ℤ) → least f x F ≤ℤ n → n ≤ℤ greatest f x F → Between p n q
  between_all n l h = (
    fraction_trans p (whole (least f x F)) (whole n) least_above (whole_le l),
    fraction_trans (whole n) (whole (greatest f x F)) q (whole_le h) greatest_below,
  )

-- a sum of two whole numbers, each at most a fraction
sum_below : (m n : ℤ) (p q : Fraction) → frac_le (whole m) p ≡ true → frac_le (whole n) q ≡ true → frac_le (whole (m +ℤ n)) (frac_add p q) ≡ true
sum_below m n p q h i = fraction_trans (whole (m +ℤ n)) (frac_add (whole m) (whole n)) (frac_add p q)
    (fraction_same_le (frac_add (whole m) (whole n)) (whole (m +ℤ n)) (whole_add m n)).1
    (fraction_add_le (whole m) (whole n) p q h i)

spread_below : (f : Constraint → ℤ) (x : Constraint) (F : List Constraint) (p q : Fraction) → ((y : Constraint) → In y (x ∷ F) → Between p (f y) q) → frac_le (whole (spread f x F)) (frac_sub q p) ≡ true
spread_below f x F p q k = sum_below (greatest f x F) (neg_ℤ (least f x F)) q (frac_neg p)
    (greatest_below f x F p q k) (fraction_neg_le p (whole (least f x F)) (least_above f x F p q k))

size_nonneg : (k : Box) → frac_le (whole (pos 0)) (box_size (box k)) ≡ true
size_nonneg k = sum_below (pos 0) (pos 0) (frac_sub k.east k.west) (frac_sub k.north k.south)
    (fraction_sub_nonneg k.east k.west k.wide) (fraction_sub_nonneg k.north k.south k.tall)

value_least : (F : List Constraint) (r : BoxRival) → Admitted boxes F → KeepsAll boxes r F → frac_le (whole (extent F)) (box_size r) ≡ true
value_least [] empty_box a k = fraction_refl (whole (negsuc 0))
value_least [] (box b) a k = fraction_trans (whole (negsuc 0)) (whole (pos 0)) (box_size (box b)) refl (size_nonneg b)
value_least (x ∷ F) empty_box a k = absurd (k x (inl refl))
value_least (x ∷ F) (box b) a k = sum_below (spread easting x F) (spread northing x F) (frac_sub b.east b.west) (frac_sub b.north b.south)
    (spread_below easting x F b.west b.east (λ y i. (k y i).0))
    (spread_below northing x F b.south b.north (λ y i. (k y i).1))

-- the value is attained

unfoldable pub hull : Constraint → List Constraint → Box
hull x F = let i = in_sides x F x (inl refl) in record {
  west = whole (least easting x F);
  east = whole (greatest easting x F);
  south = whole (least northing x F);
  north = whole (greatest northing x F);
  wide = whole_le (le_trans i.0 i.1);
  tall = whole_le (le_trans i.2 i.3);
}

pub hull_keeps : (x : Constraint) (F : List Constraint) → KeepsAll boxes (box (hull x F)) (x ∷ F)
unfolding hull
hull_keeps x F y i = let s = in_sides x F y i in ((whole_le s.0, whole_le s.1), (whole_le s.2, whole_le s.3))

pub hull_size : (x : Constraint) (F : List Constraint) → frac_same (box_size (box (hull x F))) (whole (extent (x ∷ F)))
unfolding hull
hull_size x F = ring4 (λ w e s n. ((e ⊗ num 1 ⊕ ⊝ w ⊗ num 1) ⊗ num 1 ⊕ (n ⊗ num 1 ⊕ ⊝ s ⊗ num 1) ⊗ num 1) ⊗ num 1 ≐ ((e ⊖ w) ⊕ (n ⊖ s)) ⊗ num 1) refl (least easting x F) (greatest easting x F) (least northing x F) (greatest northing x F)

size_of : Value Fraction → Fraction
size_of (finite s) = s
size_of top = whole (pos 0)

finite_is : {s t : Fraction} → finite s ≡ finite t → s ≡ t
unfolding size_of
finite_is e = ap size_of e

attained : (F : List Constraint) (s : Fraction) → Admitted boxes F → finite (whole (extent F)) ≡ finite s → (r : BoxRival) × KeepsAll boxes r F × frac_same (box_size r) s
attained [] s a e = (empty_box, (λ x i. absurd i), subst (frac_same (whole (negsuc 0))) (finite_is e) refl)
attained (x ∷ F) s a e = (box (hull x F), hull_keeps x F, subst (frac_same (box_size (box (hull x F)))) (finite_is e) (hull_size x F))

Finite : Value Fraction → Type 0
Finite (finite s) = Unit {0}
Finite top = ⊥

never_top : {s : Fraction} → finite s ≢ top
unfolding Finite
never_top e = subst Finite e tt

-- a rival of the value keeps each row that does not raise it

pub quiet_sides : (x : Constraint) (F : List Constraint) (h : Constraint) → Quiet boxes (x ∷ F) h → BetweenSides x F h
quiet_sides x F h q =
    let l = whole_out (extent (h ∷ x ∷ F)) (extent (x ∷ F)) q in
    inside_sides x F h (quiet_inside sides x F h (le_trans (le_of_eq (sym (extent_is h (x ∷ F)))) (le_trans l (le_of_eq (extent_is x F)))))

pub sides_quiet : (x : Constraint) (F : List Constraint) (h : Constraint) → BetweenSides x F h → Quiet boxes (x ∷ F) h
sides_quiet x F h i = whole_le (le_trans (le_of_eq (extent_is h (x ∷ F))) (le_trans (inside_quiet sides x F h (sides_inside x F h i)) (le_of_eq (sym (extent_is x F)))))

-- every row raises the value of no rows
pub first_raises : (h : Constraint) → Quiet boxes [] h → ⊥
first_raises h q = omega (arith, lin, whole_out (extent (h ∷ [])) (negsuc 0) q)

keeps_quiet : (F : List Constraint) (h : Constraint) (r : BoxRival) → Admitted boxes (h ∷ F) → KeepsAll boxes r F → frac_same (box_size r) (whole (extent F)) → Quiet boxes F h → KeepsPoint r h
keeps_quiet [] h r a k e q = absurd (first_raises h q)
keeps_quiet (x ∷ F) h empty_box a k e q = absurd (k x (inl refl))
keeps_quiet (x ∷ F) h (box b) a k e q =
    let s = quiet_sides x F h q in (
      between_all easting x F b.west b.east (λ y i. (k y i).0) h.a s.0 s.1,
      between_all northing x F b.south b.north (λ y i. (k y i).1) h.b s.2 s.3,
    )

-- all laws

pub boxes_laws : Laws boxes
boxes_laws = laws boxes (record {
  sizes = sizes_ordered;
  few = few;
  rivals = record {
    least = value_least;
    attained = attained;
    none = λ F r a e k. never_top e;
    keeps_quiet = keeps_quiet;
  };
  dimension_positive = omega arith;
  dimension_small = omega arith;
})
