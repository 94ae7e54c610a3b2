-- The smallest box around rows, point by point; a row raises the value where the box misses it; a list stands where each row is needed.
use Rattle.std.proofs.Common.{◌≡◌, ◌+◌, ◌<◌, Bool, true, false, List, [], ◌∷◌, ◌++◌, length, get_or, take, drop, ℤ, ◌≤ℤ◌, Some, Decides, sym, refl, ap, ◌∙◌, subst, ⊎_elim, append_assoc, arith}
use lib.Signed.{lt_z}
use Rattle.std.specs.Int.{int_max, int_min}
use Rattle.std.proofs.lemmas.Int.{ints, clamps}
use Rattle.std.proofs.lemmas.Bool.{cases_Bool, both_ways, or_parts, or_from}
use Rattle.std.proofs.lemmas.List.{append-nil, drop_more, take-append-drop, take_at, drop_at, get_or_at, length-append, length_push}
use Rattle.rows.specs.Row.{no_row}
use Rattle.rows.specs.declared.row.Constraint.{Constraint}
use Rattle.lptype.specs.Meaning.{Less, Raises, Quiet, Stands}
use Rattle.lptype.specs.Questions.{ReadsBest}
use Rattle.lptype.proofs.Inside.{front_between, between_front}
use Rattle.algebra.specs.Fraction.{whole, frac_le}
use Rattle.algebra.proofs.Order.{lt_z_false, lt_z_not}
use Rattle.bounds.specs.Bounds.{greatest, least, easting, northing, extent, empty_box, box, boxes}
use Rattle.bounds.specs.Sides.{Reads, box_around, with_point, with_points, outside, misses, others, AllNeeded}
use Rattle.bounds.specs.declared.answer.BoundsAnswer.TheVariants.{Empty}
use Rattle.bounds.specs.Directions.{stretch_same}
use Rattle.bounds.specs.Boxes.{hull, hull_keeps, hull_size, sides, extent_is, quiet_sides, sides_quiet, first_raises}

-- point by point

max_assoc : (k m n : ℤ) → int_max k (int_max m n) ≡ int_max (int_max k m) n
max_assoc k m n = omega (arith, ints, clamps)

min_assoc : (k m n : ℤ) → int_min k (int_min m n) ≡ int_min (int_min k m) n
min_assoc k m n = omega (arith, ints, clamps)

greatest_push : (f : Constraint → ℤ) (x : Constraint) (F : List Constraint) (y : Constraint) → greatest f x (F ++ y ∷ []) ≡ int_max (greatest f x F) (f y)
greatest_push f x [] y = refl
greatest_push f x (z ∷ F) y = ap (int_max (f x)) (greatest_push f z F y) ∙ max_assoc (f x) (greatest f z F) (f y)

least_push : (f : Constraint → ℤ) (x : Constraint) (F : List Constraint) (y : Constraint) → least f x (F ++ y ∷ []) ≡ int_min (least f x F) (f y)
least_push f x [] y = refl
least_push f x (z ∷ F) y = ap (int_min (f x)) (least_push f z F y) ∙ min_assoc (f x) (least f z F) (f y)

around_push : (F : List Constraint) (x : Constraint) → with_point (box_around F) x ≡ box_around (F ++ x ∷ [])
around_push [] x = refl
around_push (y ∷ F) x =
    let w = least_push easting y F x in
    let e = greatest_push easting y F x in
    let s = least_push northing y F x in
    let n = greatest_push northing y F x in
    cc

-- the points of G added to the box around F
pub around_more : (F G : List Constraint) → with_points (box_around F) G ≡ box_around (F ++ G)
around_more F [] = ap box_around (sym (append-nil F))
around_more F (x ∷ G) = ap (λ k. with_points k G) (around_push F x) ∙ around_more (F ++ x ∷ []) G ∙ ap box_around (append_assoc F (x ∷ []) G)

pub around_all : (F : List Constraint) → with_points Empty F ≡ box_around F
around_all F = around_more [] F

-- a row raises the value where the box misses it

outside_false : (low high n : ℤ) → low ≤ℤ n → n ≤ℤ high → outside low high n ≡ false
outside_false low high n h i = or_from (lt_z n low) (lt_z high n) (lt_z_not h) (lt_z_not i)

false_outside : (low high n : ℤ) → outside low high n ≡ false → (low ≤ℤ n) × (n ≤ℤ high)
false_outside low high n e = let p = or_parts (lt_z n low) (lt_z high n) e in (lt_z_false p.0, lt_z_false p.1)

pub quiet_kept : (F : List Constraint) (h : Constraint) → Quiet boxes F h → misses (box_around F) h ≡ false
quiet_kept [] h q = absurd (first_raises h q)
quiet_kept (x ∷ F) h q =
    let s = quiet_sides x F h q in
    or_from (outside (least easting x F) (greatest easting x F) h.a) (outside (least northing x F) (greatest northing x F) h.b)
    (outside_false (least easting x F) (greatest easting x F) h.a s.0 s.1)
    (outside_false (least northing x F) (greatest northing x F) h.b s.2 s.3)

pub kept_quiet : (F : List Constraint) (h : Constraint) → misses (box_around F) h ≡ false → Quiet boxes F h
kept_quiet [] h e = absurd (both_ways true e refl)
kept_quiet (x ∷ F) h e =
    let p = or_parts (outside (least easting x F) (greatest easting x F) h.a) (outside (least northing x F) (greatest northing x F) h.b) e in
    let i = false_outside (least easting x F) (greatest easting x F) h.a p.0 in
    let j = false_outside (least northing x F) (greatest northing x F) h.b p.1 in
    sides_quiet x F h (i.0, i.1, j.0, j.1)

pub raises_missed : (F : List Constraint) (h : Constraint) → Decides (misses (box_around F) h) (Raises boxes F h)
raises_missed F h = (
  (λ t. ⊎_elim (λ q. absurd (both_ways (misses (box_around F) h) (quiet_kept F h q) t)) (λ r. r) (cases_Bool (frac_le (whole (extent (h ∷ F))) (whole (extent F))))),
  (λ r. ⊎_elim (λ t. t) (λ e. absurd (both_ways (frac_le (whole (extent (h ∷ F))) (whole (extent F))) r (kept_quiet F h e))) (cases_Bool (misses (box_around F) h))),
)

-- a list stands where each row is needed

-- one row in front or between: the same value
extent_between : (xs ys : List Constraint) (x : Constraint) → extent (x ∷ (xs ++ ys)) ≡ extent (xs ++ (x ∷ ys))
extent_between [] ys x = refl
extent_between (z ∷ zs) ys x = extent_is x ((z ∷ zs) ++ ys) ∙ stretch_same sides x ((z ∷ zs) ++ ys) z (zs ++ (x ∷ ys)) (front_between (z ∷ zs) ys x) (between_front (z ∷ zs) ys x) ∙ sym (extent_is z (zs ++ (x ∷ ys)))

-- leaving x out lowers the value where the box around the others misses x
left_out : (xs ys : List Constraint) (x : Constraint) (B : List Constraint) → B ≡ xs ++ (x ∷ ys) → Decides (misses (box_around (xs ++ ys)) x) (Less frac_le (boxes.value (xs ++ ys)) (boxes.value B))
left_out xs ys x B e =
    subst (λ n. Decides (misses (box_around (xs ++ ys)) x) (frac_le (whole n) (whole (extent (xs ++ ys))) ≡ false)) (extent_between xs ys x ∙ ap extent (sym e)) (raises_missed (xs ++ ys) x)

drop_past : (xs ys : List Constraint) (x : Constraint) → drop (length xs + 1) (xs ++ (x ∷ ys)) ≡ ys
drop_past xs ys x = ap (drop (length xs + 1)) (sym (append_assoc xs (x ∷ []) ys)) ∙ drop_at (xs ++ x ∷ []) ys (length xs + 1) (length_push xs x)

module _ (F : List Constraint) where
  pub needed_stands : AllNeeded F → Stands boxes F
  needed_stands n = record {
    without = λ xs ys x e.
        let l : length xs < length F = omega (arith, ap length e, length-append xs (x ∷ ys)) in
        let t : take (length xs) F ≡ xs = ap (take (length xs)) e ∙ take_at xs (x ∷ ys) (length xs) refl in
        let d : drop (length xs + 1) F ≡ ys = ap (drop (length xs + 1)) e ∙ drop_past xs ys x in
        let o : others F (length xs) ≡ xs ++ ys = ap (λ k. k ++ drop (length xs + 1) F) t ∙ ap (λ k. xs ++ k) d in
        let g : get_or F (length xs) no_row.constraint ≡ x = ap (λ k. get_or k (length xs) no_row.constraint) e ∙ get_or_at xs x ys no_row.constraint (length xs) refl in
        (left_out xs ys x F e).0 (sym (ap (λ k. misses (box_around k) x) o) ∙ sym (ap (misses (box_around (others F (length xs)))) g) ∙ n (length xs) l);
  }

  pub stands_needed : Stands boxes F → AllNeeded F
  stands_needed s i l =
      let x = get_or F i no_row.constraint in
      let e : F ≡ take i F ++ (x ∷ drop (i + 1) F) = sym (take-append-drop i F) ∙ ap (λ k. take i F ++ k) (drop_more F i no_row.constraint l) in
      (left_out (take i F) (drop (i + 1) F) x F e).1 (s.without (take i F) (drop (i + 1) F) x e)

  pub needed_decides : (b : Bool) → Decides b (AllNeeded F) → Decides b (Stands boxes F)
  needed_decides b d = ((λ t. needed_stands (d.0 t)), (λ s. d.1 (stands_needed s)))

-- the box around the rows reads as a best rival
pub best_box : (F : List Constraint) → ReadsBest boxes Reads F (box_around F)
unfolding hull
best_box [] = (Some empty_box, tt, ((λ x i. absurd i), refl))
best_box (x ∷ F) = (Some (box (hull x F)), (refl, refl, refl, refl), (hull_keeps x F, hull_size x F))
