-- How far rows reach in some directions: the furthest in each, their sum, few rows that reach as far, and when one more row reaches further.
use Rattle.std.specs.Prelude.{◌≡◌, suc, ◌⊎◌, List, [], ◌∷◌, length, ℤ, pos, ◌+ℤ◌, ◌*ℤ◌, neg_ℤ, ◌≤ℤ◌, refl}
use Rattle.std.proofs.Common.{sym, ◌∙◌, ap, subst, inl, inr, ⊎_elim, arith}
use Rattle.std.specs.Int.Signed.{≤ℤ_refl}
use Rattle.std.specs.Int.{int_max, int_min}
use Rattle.std.specs.List.{AllByRecursion}
use Rattle.std.proofs.lemmas.Int.{ints, clamps, by_lt_z}
use Rattle.rows.specs.declared.row.Constraint.{Constraint}
use Rattle.lptype.specs.Meaning.{In, Within}
use Rattle.algebra.proofs.Order.{lin, le_trans, antisym, le_of_eq}
use Rattle.bounds.specs.Bounds.{greatest, least}

-- sums

add_le : {k l m n : ℤ} → k ≤ℤ m → l ≤ℤ n → (k +ℤ l) ≤ℤ (m +ℤ n)
add_le {k} {l} {m} {n} h i = omega (arith, lin)

add_left : {k l m n : ℤ} → (k +ℤ l) ≤ℤ (m +ℤ n) → n ≤ℤ l → k ≤ℤ m
add_left {k} {l} {m} {n} h i = omega (arith, lin)

add_right : {k l m n : ℤ} → (k +ℤ l) ≤ℤ (m +ℤ n) → m ≤ℤ k → l ≤ℤ n
add_right {k} {l} {m} {n} h i = omega (arith, lin)

-- the greatest of a list

max_left : (m n : ℤ) → m ≤ℤ int_max m n
max_left m n = omega (arith, ints, clamps)

max_right : (m n : ℤ) → n ≤ℤ int_max m n
max_right m n = omega (arith, ints, clamps)

max_one : (m n : ℤ) → (int_max m n ≡ m) ⊎ (int_max m n ≡ n)
max_one m n = by_lt_z n m (λ l. inl (omega (arith, ints, clamps))) (λ l. inr (omega (arith, ints, clamps)))

max_neg : (m n : ℤ) → int_max (neg_ℤ m) (neg_ℤ n) ≡ neg_ℤ (int_min m n)
max_neg m n = omega (arith, ints, clamps)

max_le : {m n k : ℤ} → m ≤ℤ k → n ≤ℤ k → int_max m n ≤ℤ k
max_le {m} {n} {k} h i = omega (arith, ints, clamps)

pub greatest_in : (f : Constraint → ℤ) (x : Constraint) (F : List Constraint) (y : Constraint) → In y (x ∷ F) → f y ≤ℤ greatest f x F
greatest_in f x [] y (inl e) = le_of_eq (ap f e)
greatest_in f x [] y (inr i) = absurd i
greatest_in f x (z ∷ F) y (inl e) = le_trans (le_of_eq (ap f e)) (max_left (f x) (greatest f z F))
greatest_in f x (z ∷ F) y (inr i) = le_trans (greatest_in f z F y i) (max_right (f x) (greatest f z F))

pub greatest_hit : (f : Constraint → ℤ) (x : Constraint) (F : List Constraint) → (y : Constraint) × In y (x ∷ F) × (greatest f x F ≡ f y)
greatest_hit f x [] = (x, inl refl, refl)
greatest_hit f x (z ∷ F) = ⊎_elim
    (λ e. (x, inl refl, e))
    (λ e. let t = greatest_hit f z F in (t.0, inr t.1, e ∙ t.2))
    (max_one (f x) (greatest f z F))

pub greatest_mono : (f : Constraint → ℤ) (x : Constraint) (F : List Constraint) (y : Constraint) (G : List Constraint) → Within (x ∷ F) (y ∷ G) → greatest f x F ≤ℤ greatest f y G
greatest_mono f x F y G w = let t = greatest_hit f x F in le_trans (le_of_eq t.2) (greatest_in f y G t.0 (w t.0 t.1))

pub greatest_cong : (f g : Constraint → ℤ) → ((z : Constraint) → f z ≡ g z) → (x : Constraint) (F : List Constraint) → greatest f x F ≡ greatest g x F
greatest_cong f g e x [] = e x
greatest_cong f g e x (y ∷ F) = ap (λ m. int_max m (greatest f y F)) (e x) ∙ ap (int_max (g x)) (greatest_cong f g e y F)

-- the least is the greatest of the opposites
pub greatest_neg : (f : Constraint → ℤ) (x : Constraint) (F : List Constraint) → greatest (λ z. neg_ℤ (f z)) x F ≡ neg_ℤ (least f x F)
greatest_neg f x [] = refl
greatest_neg f x (y ∷ F) = ap (int_max (neg_ℤ (f x))) (greatest_neg f y F) ∙ max_neg (f x) (least f y F)

opposite : {m n : ℤ} → neg_ℤ m ≡ neg_ℤ n → m ≡ n
opposite {m} {n} e = omega (arith, lin)

pub least_hit : (f : Constraint → ℤ) (x : Constraint) (F : List Constraint) → (y : Constraint) × In y (x ∷ F) × (least f x F ≡ f y)
least_hit f x F = let t = greatest_hit (λ z. neg_ℤ (f z)) x F in (t.0, t.1, opposite (sym (greatest_neg f x F) ∙ t.2))

-- directions

pub record Direction : Type 0 where
  pub u : ℤ
  pub v : ℤ

-- how far a row lies in a direction
abbrev pub along : Direction → Constraint → ℤ
along d x = d.u *ℤ x.a +ℤ d.v *ℤ x.b

-- how far x and the rows of F reach in a direction
abbrev pub reach : Direction → Constraint → List Constraint → ℤ
reach d x F = greatest (along d) x F

-- the sum over the directions
abbrev pub stretch : List Direction → Constraint → List Constraint → ℤ
stretch [] x F = pos 0
stretch (d ∷ D) x F = reach d x F +ℤ stretch D x F

pub stretch_mono : (D : List Direction) (x : Constraint) (F : List Constraint) (y : Constraint) (G : List Constraint) → Within (x ∷ F) (y ∷ G) → stretch D x F ≤ℤ stretch D y G
stretch_mono [] x F y G w = ≤ℤ_refl (pos 0)
stretch_mono (d ∷ D) x F y G w = add_le (greatest_mono (along d) x F y G w) (stretch_mono D x F y G w)

pub stretch_same : (D : List Direction) (x : Constraint) (F : List Constraint) (y : Constraint) (G : List Constraint) → Within (x ∷ F) (y ∷ G) → Within (y ∷ G) (x ∷ F) → stretch D x F ≡ stretch D y G
stretch_same D x F y G v w = antisym (stretch_mono D x F y G v) (stretch_mono D y G x F w)

-- few: one row for each direction

-- a row of B lies as far in direction d as x and the rows of F reach
Hit : Constraint → List Constraint → List Constraint → Direction → Type 0
Hit x F B d = (y : Constraint) × In y B × (reach d x F ≡ along d y)

hit_more : (x : Constraint) (F B : List Constraint) (z : Constraint) (D : List Direction) → AllByRecursion (Hit x F B) D → AllByRecursion (Hit x F (z ∷ B)) D
unfolding Hit
hit_more x F B z [] h = tt
hit_more x F B z (d ∷ D) h = ((h.0.0, inr h.0.1, h.0.2), hit_more x F B z D h.1)

chosen : (D : List Direction) (x : Constraint) (F : List Constraint) → (B : List Constraint) × Within B (x ∷ F) × (length B ≡ length D) × AllByRecursion (Hit x F B) D
unfolding Hit
chosen [] x F = ([], (λ y i. absurd i), refl, tt)
chosen (d ∷ D) x F =
    let t = greatest_hit (along d) x F in
    let c = chosen D x F in
    (t.0 ∷ c.0, (λ y. elim [ inl e ↦ subst (λ z. In z (x ∷ F)) (sym e) t.1 | inr i ↦ c.1 y i ]), ap suc c.2, ((t.0, inl refl, t.2), hit_more x F c.0 t.0 D c.3))

hit_reach : (x : Constraint) (F : List Constraint) (y : Constraint) (B : List Constraint) (D : List Direction) → Within (y ∷ B) (x ∷ F) → AllByRecursion (Hit x F (y ∷ B)) D → stretch D y B ≡ stretch D x F
unfolding Hit
hit_reach x F y B [] w h = refl
hit_reach x F y B (d ∷ D) w h =
    let up = greatest_mono (along d) y B x F w in
    let down = le_trans (le_of_eq h.0.2) (greatest_in (along d) y B h.0.0 h.0.1) in
    ap (λ (m : ℤ). m +ℤ stretch D y B) (antisym up down) ∙ ap (λ (m : ℤ). reach d x F +ℤ m) (hit_reach x F y B D w h.1)

-- some rows, one for each direction, reach as far as all
pub few_reach : (d : Direction) (D : List Direction) (x : Constraint) (F : List Constraint) →
    (y : Constraint) × (B : List Constraint) × Within (y ∷ B) (x ∷ F) × (length (y ∷ B) ≡ length (d ∷ D)) × (stretch (d ∷ D) y B ≡ stretch (d ∷ D) x F)
unfolding chosen
few_reach d D x F =
    let t = greatest_hit (along d) x F in
    let c = chosen D x F in
    let e = chosen (d ∷ D) x F in
    (t.0, c.0, e.1, e.2, hit_reach x F t.0 c.0 (d ∷ D) e.1 e.3)

-- one more row

-- h lies no further than x and the rows of F reach, in each direction
abbrev pub Inside : List Direction → Constraint → List Constraint → Constraint → Type 0
Inside D x F h = AllByRecursion (λ d. along d h ≤ℤ reach d x F) D

-- each of the rows lies inside
pub in_inside : (D : List Direction) (x : Constraint) (F : List Constraint) (h : Constraint) → In h (x ∷ F) → Inside D x F h
in_inside [] x F h i = tt
in_inside (d ∷ D) x F h i = (greatest_in (along d) x F h i, in_inside D x F h i)

-- a row inside makes the rows reach no further
pub inside_quiet : (D : List Direction) (x : Constraint) (F : List Constraint) (h : Constraint) → Inside D x F h → stretch D h (x ∷ F) ≤ℤ stretch D x F
inside_quiet [] x F h i = ≤ℤ_refl (pos 0)
inside_quiet (d ∷ D) x F h i = add_le (max_le i.0 (≤ℤ_refl (reach d x F))) (inside_quiet D x F h i.1)

-- a row that makes them reach no further lies inside: one that lies beyond in some direction raises the sum
pub quiet_inside : (D : List Direction) (x : Constraint) (F : List Constraint) (h : Constraint) → stretch D h (x ∷ F) ≤ℤ stretch D x F → Inside D x F h
quiet_inside [] x F h q = tt
quiet_inside (d ∷ D) x F h q =
    let s = stretch_mono D x F h (x ∷ F) (λ y i. inr i) in
    let m = max_right (along d h) (reach d x F) in
    (le_trans (max_left (along d h) (reach d x F)) (add_left q s), quiet_inside D x F h (add_right q m))
