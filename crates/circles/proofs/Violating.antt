-- When a row violates a list that stands.
use Rattle.std.proofs.Common.{◌≡◌, ◌↔◌, [], ◌∷◌, ℤ, pos, ◌-ℤ◌, ◌*ℤ◌, neg_ℤ, ◌≤ℤ◌, ◌<ℤ◌, refl, ap, ◌∙◌, subst, arith}
use lib.Signed.{clash_ℤ}
use Rattle.std.proofs.lemmas.Int.{by_lt_z}
use Rattle.rows.specs.declared.row.Constraint.{Constraint}
use Rattle.lptype.specs.Meaning.{Raises}
use Rattle.algebra.proofs.Ring.{E, num, ◌⊕◌, ◌⊖◌, ◌⊗◌, ⊝, ◌≐◌, ring2, ring3, ring4, ring8}
use Rattle.algebra.proofs.Order.{lin, le_by, lt_by, le_of_eq, le_of_lt, mul_nonneg, mul_pos}
use Rattle.circles.specs.Angles.{apart, corner, turn, Differ, Acute, power, centre_x, centre_y}
use Rattle.circles.specs.Discs.{disc, from_centre, KeepsPoint, discs}
use Rattle.circles.proofs.Quoted.{squaresE, from_centreE, apartE, crossE, turnE, centre_xE, centre_yE, sidesE}
use Rattle.circles.proofs.Optimal.{single, single_best, pair, pair_keeps, pair_drops, sides, turn_pos, triangle, triangle_from, triangle_best}
use Rattle.circles.proofs.Standing.{optimal_raises, two_best, apart_pos, apart_same}

iff_trans : {A B C : Type 0} → A ↔ B → B ↔ C → A ↔ C
iff_trans f g = ((λ a. g.0 (f.0 a)), (λ c. f.1 (g.1 c)))

single_is : (p h : Constraint) → from_centre p.a p.b (pos 1) h ≡ apart p h
single_is p h = ring4 (λ pa pb ha hb. from_centreE pa pb (num 1) ha hb ≐ apartE pa pb ha hb) refl p.a p.b h.a h.b

pub violates_one : (p h : Constraint) → Raises discs (p ∷ []) h ↔ Differ p h
violates_one p h = iff_trans (optimal_raises (single p) p [] (single_best p) h) (
  (λ n e. n (le_of_eq (single_is p h ∙ apart_same p h e.0 e.1))),
  (λ n k. clash_ℤ (apart_pos p h n) (subst (λ (z : ℤ). z ≤ℤ pos 0) (single_is p h) k)),
)

pub violates_two : (p q h : Constraint) → Raises discs (p ∷ q ∷ []) h ↔ (pos 0 <ℤ corner h p q)
violates_two p q h = iff_trans (optimal_raises (pair p q) p (q ∷ []) (two_best p q) h) (
  (λ n. by_lt_z (pos 0) (corner h p q) (λ l. l) (λ l. absurd (n (pair_keeps p q h l)))),
  (λ l k. clash_ℤ l (pair_drops p q h k)),
)

abbrev sumE : E → E → E → E → E → E → E
sumE ux uy vx vy tx ty = squaresE ux uy ⊗ crossE vx vy tx ty ⊕ squaresE vx vy ⊗ crossE tx ty ux uy ⊕ squaresE tx ty ⊗ crossE ux uy vx vy

-- what the circle through p, q and r is to h
circle_is : (p q r h : Constraint) → sides p q r -ℤ from_centre (centre_x p q r) (centre_y p q r) (pos 2 *ℤ turn p q r) h ≡ pos 4 *ℤ (turn p q r *ℤ power p q r h)
circle_is p q r h = ring8 (λ pa pb qa qb ra rb ha hb. sidesE pa pb qa qb ra rb ⊖ from_centreE (centre_xE pa pb qa qb ra rb) (centre_yE pa pb qa qb ra rb) (num 2 ⊗ turnE pa pb qa qb ra rb) ha hb
    ≐ num 4 ⊗ (turnE pa pb qa qb ra rb ⊗ sumE (pa ⊖ ha) (pb ⊖ hb) (qa ⊖ ha) (qb ⊖ hb) (ra ⊖ ha) (rb ⊖ hb))) refl p.a p.b q.a q.b r.a r.b h.a h.b

-- the same of the disc `triangle`, all times k²
circle_gap : (p q r h : Constraint) → turn p q r *ℤ turn p q r *ℤ sides p q r -ℤ from_centre (turn p q r *ℤ centre_x p q r) (turn p q r *ℤ centre_y p q r) (pos 2 *ℤ (turn p q r *ℤ turn p q r)) h
    ≡ turn p q r *ℤ turn p q r *ℤ (pos 4 *ℤ (turn p q r *ℤ power p q r h))
circle_gap p q r h =
    ap (λ (z : ℤ). turn p q r *ℤ turn p q r *ℤ sides p q r -ℤ z) (triangle_from (turn p q r) (centre_x p q r) (centre_y p q r) h)
    ∙ ring3 (λ k s w. k ⊗ k ⊗ s ⊖ k ⊗ k ⊗ w ≐ k ⊗ k ⊗ (s ⊖ w)) refl (turn p q r) (sides p q r) (from_centre (centre_x p q r) (centre_y p q r) (pos 2 *ℤ turn p q r) h)
    ∙ ap (λ (z : ℤ). turn p q r *ℤ turn p q r *ℤ z) (circle_is p q r h)

circle_keeps : (p q r h : Constraint) (l : pos 0 <ℤ (turn p q r *ℤ turn p q r)) → pos 0 ≤ℤ (turn p q r *ℤ power p q r h) → KeepsPoint (disc (triangle p q r l)) h
circle_keeps p q r h l i = le_by (mul_nonneg (le_of_lt l) (mul_nonneg {a = pos 4} (record { le = tt }) i)) (circle_gap p q r h)

negated : (a b k s : ℤ) → a -ℤ b ≡ k *ℤ (pos 4 *ℤ s) → b -ℤ a ≡ k *ℤ (pos 4 *ℤ neg_ℤ s)
negated a b k s e = ring2 (λ a b. b ⊖ a ≐ ⊝ (a ⊖ b)) refl a b ∙ ap neg_ℤ e ∙ ring2 (λ k s. ⊝ (k ⊗ (num 4 ⊗ s)) ≐ k ⊗ (num 4 ⊗ ⊝ s)) refl k s

neg_pos : {s : ℤ} → s <ℤ pos 0 → pos 0 <ℤ neg_ℤ s
neg_pos {s} h = omega (arith, lin)

circle_drops : (p q r h : Constraint) (l : pos 0 <ℤ (turn p q r *ℤ turn p q r)) → (turn p q r *ℤ power p q r h) <ℤ pos 0 → ¬ KeepsPoint (disc (triangle p q r l)) h
circle_drops p q r h l i k = clash_ℤ
    (lt_by (mul_pos l (mul_pos {a = pos 4} {b = neg_ℤ (turn p q r *ℤ power p q r h)} (record { lt = tt }) (neg_pos i)))
    (negated (turn p q r *ℤ turn p q r *ℤ sides p q r) (from_centre (turn p q r *ℤ centre_x p q r) (turn p q r *ℤ centre_y p q r) (pos 2 *ℤ (turn p q r *ℤ turn p q r)) h) (turn p q r *ℤ turn p q r) (turn p q r *ℤ power p q r h) (circle_gap p q r h)))
    k

circle_out : (p q r h : Constraint) (l : pos 0 <ℤ (turn p q r *ℤ turn p q r)) → (¬ KeepsPoint (disc (triangle p q r l)) h) ↔ ((turn p q r *ℤ power p q r h) <ℤ pos 0)
circle_out p q r h l =
    ((λ n. by_lt_z (turn p q r *ℤ power p q r h) (pos 0) (λ i. i) (λ i. absurd (n (circle_keeps p q r h l i)))), circle_drops p q r h l)

pub violates_three : (p q r h : Constraint) → Acute p q r → Raises discs (p ∷ q ∷ r ∷ []) h ↔ ((turn p q r *ℤ power p q r h) <ℤ pos 0)
violates_three p q r h a =
    iff_trans (optimal_raises (triangle p q r (turn_pos p q r a)) p (q ∷ r ∷ []) (triangle_best p q r a) h) (circle_out p q r h (turn_pos p q r a))
