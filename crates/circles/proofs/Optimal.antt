-- The best discs of one, two and three points: what they keep, and by weak duality that every disc that keeps the points is
-- no smaller, and of equal size only round the same centre.
use Rattle.std.proofs.Common.{◌≡◌, List, [], ◌∷◌, ℤ, pos, ◌+ℤ◌, ◌-ℤ◌, ◌*ℤ◌, neg_ℤ, ◌≤ℤ◌, ◌<ℤ◌, sym, refl, ap, ◌∙◌, subst, inl, inr, arith}
use Rattle.rows.specs.declared.row.Constraint.{Constraint}
use Rattle.lptype.specs.Meaning.{In}
use Rattle.algebra.proofs.Ring.{num, ◌⊕◌, ◌⊖◌, ◌⊗◌, ⊝, ◌≐◌, ring2, ring4, ring5, ring6, ring8, ring9}
use Rattle.algebra.proofs.Order.{lin, le_by, le_of_eq, le_of_lt, nonneg_diff, add_nonneg, mul_nonneg, mul_pos, sq_nonneg}
use Rattle.circles.specs.Angles.{squares, apart, corner, turn, Acute, centre_x, centre_y}
use Rattle.circles.specs.Discs.{Circle, disc, from_centre, KeepsPoint}
use Rattle.circles.proofs.Quoted.{squaresE, from_centreE, apartE, cornerE, turnE, centre_xE, centre_yE, sidesE}

-- the squared distance of the two centres, times both denominators squared
abbrev pub far : Circle → Circle → ℤ
far c e = squares (c.D *ℤ e.X -ℤ e.D *ℤ c.X) (c.D *ℤ e.Y -ℤ e.D *ℤ c.Y)

-- c keeps the rows, and is best: the size of any disc e that keeps them is at least that of c and the squared distance of their centres together
pub record Optimal (c : Circle) (F : List Constraint) : Type 0 where
  pub all : (x : Constraint) → In x F → KeepsPoint (disc c) x
  pub dual : (e : Circle) → ((x : Constraint) → In x F → KeepsPoint (disc e) x) → (e.D *ℤ e.D *ℤ c.Q +ℤ far c e) ≤ℤ (c.D *ℤ c.D *ℤ e.Q)

pub sq_sum : (x y : ℤ) → pos 0 ≤ℤ squares x y
sq_sum x y = add_nonneg (sq_nonneg x) (sq_nonneg y)

-- one point

abbrev pub single : Constraint → Circle
single p = record { X = p.a; Y = p.b; Q = pos 0; D = pos 1; positive = record { lt = tt }; nonneg = record { le = tt } }

pub single_keeps : (p : Constraint) → from_centre p.a p.b (pos 1) p ≡ pos 0
single_keeps p = ring2 (λ a b. from_centreE a b (num 1) a b ≐ num 0) refl p.a p.b

pub single_best : (p : Constraint) → Optimal (single p) (p ∷ [])
single_best p = record {
  all = λ x. elim [ inl e ↦ subst (λ z. KeepsPoint (disc (single p)) z) (sym e) (le_of_eq (single_keeps p)) | inr i ↦ absurd i ];
  dual = λ e k. le_by (nonneg_diff (k p (inl refl)))
      (ring6 (λ a b x y d q. num 1 ⊗ num 1 ⊗ q ⊖ (d ⊗ d ⊗ num 0 ⊕ squaresE (num 1 ⊗ x ⊖ d ⊗ a) (num 1 ⊗ y ⊖ d ⊗ b)) ≐ q ⊖ from_centreE x y d a b) refl p.a p.b e.X e.Y e.D e.Q);
}

-- two points

abbrev pub pair : Constraint → Constraint → Circle
pair p q = record { X = p.a +ℤ q.a; Y = p.b +ℤ q.b; Q = apart p q; D = pos 2; positive = record { lt = tt }; nonneg = sq_sum (p.a -ℤ q.a) (p.b -ℤ q.b) }

-- what the circle on p and q is to h
pub pair_is : (p q h : Constraint) → apart p q -ℤ from_centre (p.a +ℤ q.a) (p.b +ℤ q.b) (pos 2) h ≡ pos 4 *ℤ neg_ℤ (corner h p q)
pair_is p q h = ring6 (λ pa pb qa qb ha hb. apartE pa pb qa qb ⊖ from_centreE (pa ⊕ qa) (pb ⊕ qb) (num 2) ha hb ≐ num 4 ⊗ ⊝ (cornerE ha hb pa pb qa qb)) refl p.a p.b q.a q.b h.a h.b

pub pair_keeps : (p q h : Constraint) → corner h p q ≤ℤ pos 0 → KeepsPoint (disc (pair p q)) h
pair_keeps p q h l = omega (arith, lin, pair_is p q h)

pub pair_drops : (p q h : Constraint) → KeepsPoint (disc (pair p q)) h → corner h p q ≤ℤ pos 0
pair_drops p q h l = omega (arith, lin, pair_is p q h)

first_corner : (p q : Constraint) → corner p p q ≡ pos 0
first_corner p q = ring4 (λ pa pb qa qb. cornerE pa pb pa pb qa qb ≐ num 0) refl p.a p.b q.a q.b

second_corner : (p q : Constraint) → corner q p q ≡ pos 0
second_corner p q = ring4 (λ pa pb qa qb. cornerE qa qb pa pb qa qb ≐ num 0) refl p.a p.b q.a q.b

pub pair_first : (p q : Constraint) → KeepsPoint (disc (pair p q)) p
pair_first p q = pair_keeps p q p (le_of_eq (first_corner p q))

pub pair_second : (p q : Constraint) → KeepsPoint (disc (pair p q)) q
pair_second p q = pair_keeps p q q (le_of_eq (second_corner p q))

-- by the parallelogram law
pub pair_dual : (p q : Constraint) (e : Circle) → KeepsPoint (disc e) p → KeepsPoint (disc e) q → (e.D *ℤ e.D *ℤ apart p q +ℤ far (pair p q) e) ≤ℤ (pos 4 *ℤ e.Q)
pair_dual p q e i j = le_by (add_nonneg (add_nonneg (nonneg_diff i) (nonneg_diff i)) (add_nonneg (nonneg_diff j) (nonneg_diff j)))
    (ring8 (λ pa pb qa qb x y d q. num 4 ⊗ q ⊖ (d ⊗ d ⊗ apartE pa pb qa qb ⊕ squaresE (num 2 ⊗ x ⊖ d ⊗ (pa ⊕ qa)) (num 2 ⊗ y ⊖ d ⊗ (pb ⊕ qb)))
    ≐ ((q ⊖ from_centreE x y d pa pb) ⊕ (q ⊖ from_centreE x y d pa pb)) ⊕ ((q ⊖ from_centreE x y d qa qb) ⊕ (q ⊖ from_centreE x y d qa qb))) refl
    p.a p.b q.a q.b e.X e.Y e.D e.Q)

-- of any rows that the circle on two of them holds
pub pair_best : (p q : Constraint) (F : List Constraint) → In p F → In q F → ((x : Constraint) → In x F → KeepsPoint (disc (pair p q)) x) → Optimal (pair p q) F
pair_best p q F i j k = record { all = k; dual = λ e h. pair_dual p q e (h p i) (h q j) }

-- three points

abbrev pub sides : Constraint → Constraint → Constraint → ℤ
sides p q r = apart q r *ℤ apart r p *ℤ apart p q

-- the weight of the corner p
abbrev weight : Constraint → Constraint → Constraint → ℤ
weight p q r = apart q r *ℤ corner p q r

weights : (p q r : Constraint) → pos 2 *ℤ (turn p q r *ℤ turn p q r) ≡ weight p q r +ℤ weight q r p +ℤ weight r p q
weights p q r = ring6 (λ pa pb qa qb ra rb. num 2 ⊗ (turnE pa pb qa qb ra rb ⊗ turnE pa pb qa qb ra rb)
    ≐ apartE qa qb ra rb ⊗ cornerE pa pb qa qb ra rb ⊕ apartE ra rb pa pb ⊗ cornerE qa qb ra rb pa pb ⊕ apartE pa pb qa qb ⊗ cornerE ra rb pa pb qa qb) refl p.a p.b q.a q.b r.a r.b

side_is : (p q r : Constraint) → apart q r ≡ corner q r p +ℤ corner r p q
side_is p q r = ring6 (λ pa pb qa qb ra rb. apartE qa qb ra rb ≐ cornerE qa qb ra rb pa pb ⊕ cornerE ra rb pa pb qa qb) refl p.a p.b q.a q.b r.a r.b

pub turned : {p q r : Constraint} → Acute p q r → Acute q r p
turned a = record { at_p = a.at_q; at_q = a.at_r; at_r = a.at_p }

pub side_pos : (p q r : Constraint) → Acute p q r → pos 0 <ℤ apart q r
side_pos p q r a = omega (arith, lin, side_is p q r, a.at_q, a.at_r)

weight_pos : (p q r : Constraint) → Acute p q r → pos 0 <ℤ weight p q r
weight_pos p q r a = mul_pos (side_pos p q r a) a.at_p

pub turn_pos : (p q r : Constraint) → Acute p q r → pos 0 <ℤ (turn p q r *ℤ turn p q r)
turn_pos p q r a = omega (arith, lin, weights p q r, weight_pos p q r a, weight_pos q r p (turned a), weight_pos r p q (turned (turned a)))

pub on_p : (p q r : Constraint) → from_centre (centre_x p q r) (centre_y p q r) (pos 2 *ℤ turn p q r) p ≡ sides p q r
on_p p q r = ring6 (λ pa pb qa qb ra rb. from_centreE (centre_xE pa pb qa qb ra rb) (centre_yE pa pb qa qb ra rb) (num 2 ⊗ turnE pa pb qa qb ra rb) pa pb ≐ sidesE pa pb qa qb ra rb) refl p.a p.b q.a q.b r.a r.b

on_q : (p q r : Constraint) → from_centre (centre_x p q r) (centre_y p q r) (pos 2 *ℤ turn p q r) q ≡ sides p q r
on_q p q r = ring6 (λ pa pb qa qb ra rb. from_centreE (centre_xE pa pb qa qb ra rb) (centre_yE pa pb qa qb ra rb) (num 2 ⊗ turnE pa pb qa qb ra rb) qa qb ≐ sidesE pa pb qa qb ra rb) refl p.a p.b q.a q.b r.a r.b

on_r : (p q r : Constraint) → from_centre (centre_x p q r) (centre_y p q r) (pos 2 *ℤ turn p q r) r ≡ sides p q r
on_r p q r = ring6 (λ pa pb qa qb ra rb. from_centreE (centre_xE pa pb qa qb ra rb) (centre_yE pa pb qa qb ra rb) (num 2 ⊗ turnE pa pb qa qb ra rb) ra rb ≐ sidesE pa pb qa qb ra rb) refl p.a p.b q.a q.b r.a r.b

-- the sum of weighted squared distances from (x/d, y/d)
balance : (p q r : Constraint) (x y d : ℤ) → d *ℤ d *ℤ sides p q r +ℤ squares (pos 2 *ℤ turn p q r *ℤ x -ℤ d *ℤ centre_x p q r) (pos 2 *ℤ turn p q r *ℤ y -ℤ d *ℤ centre_y p q r)
    ≡ pos 2 *ℤ (weight p q r *ℤ from_centre x y d p +ℤ weight q r p *ℤ from_centre x y d q +ℤ weight r p q *ℤ from_centre x y d r)
balance p q r x y d = ring9 (λ pa pb qa qb ra rb x y d. d ⊗ d ⊗ sidesE pa pb qa qb ra rb ⊕ squaresE (num 2 ⊗ turnE pa pb qa qb ra rb ⊗ x ⊖ d ⊗ centre_xE pa pb qa qb ra rb) (num 2 ⊗ turnE pa pb qa qb ra rb ⊗ y ⊖ d ⊗ centre_yE pa pb qa qb ra rb)
    ≐ num 2 ⊗ (apartE qa qb ra rb ⊗ cornerE pa pb qa qb ra rb ⊗ from_centreE x y d pa pb ⊕ apartE ra rb pa pb ⊗ cornerE qa qb ra rb pa pb ⊗ from_centreE x y d qa qb ⊕ apartE pa pb qa qb ⊗ cornerE ra rb pa pb qa qb ⊗ from_centreE x y d ra rb)) refl
    p.a p.b q.a q.b r.a r.b x y d

-- the circle through p, q and r: its centre is centre_x/2k, centre_y/2k for the turn k, here times k
abbrev pub triangle : (p q r : Constraint) → pos 0 <ℤ (turn p q r *ℤ turn p q r) → Circle
triangle p q r h = record {
  X = turn p q r *ℤ centre_x p q r;
  Y = turn p q r *ℤ centre_y p q r;
  Q = turn p q r *ℤ turn p q r *ℤ sides p q r;
  D = pos 2 *ℤ (turn p q r *ℤ turn p q r);
  positive = mul_pos {a = pos 2} {b = turn p q r *ℤ turn p q r} (record { lt = tt }) h;
  nonneg = mul_nonneg (le_of_lt h) (mul_nonneg (mul_nonneg (sq_sum (q.a -ℤ r.a) (q.b -ℤ r.b)) (sq_sum (r.a -ℤ p.a) (r.b -ℤ p.b))) (sq_sum (p.a -ℤ q.a) (p.b -ℤ q.b)));
}

pub triangle_from : (k x y : ℤ) (h : Constraint) → from_centre (k *ℤ x) (k *ℤ y) (pos 2 *ℤ (k *ℤ k)) h ≡ k *ℤ k *ℤ from_centre x y (pos 2 *ℤ k) h
triangle_from k x y h = ring5 (λ k x y a b. from_centreE (k ⊗ x) (k ⊗ y) (num 2 ⊗ (k ⊗ k)) a b ≐ k ⊗ k ⊗ from_centreE x y (num 2 ⊗ k) a b) refl k x y h.a h.b

triangle_on : (p q r h : Constraint) (l : pos 0 <ℤ (turn p q r *ℤ turn p q r)) → from_centre (centre_x p q r) (centre_y p q r) (pos 2 *ℤ turn p q r) h ≡ sides p q r → KeepsPoint (disc (triangle p q r l)) h
triangle_on p q r h l e = le_of_eq (triangle_from (turn p q r) (centre_x p q r) (centre_y p q r) h ∙ ap (λ (z : ℤ). turn p q r *ℤ turn p q r *ℤ z) e)

triangle_dual : (p q r : Constraint) (a : Acute p q r) (e : Circle) → KeepsPoint (disc e) p → KeepsPoint (disc e) q → KeepsPoint (disc e) r →
    (e.D *ℤ e.D *ℤ (turn p q r *ℤ turn p q r *ℤ sides p q r) +ℤ far (triangle p q r (turn_pos p q r a)) e) ≤ℤ (pos 2 *ℤ (turn p q r *ℤ turn p q r) *ℤ (pos 2 *ℤ (turn p q r *ℤ turn p q r)) *ℤ e.Q)
triangle_dual p q r a e i j m =
    let k = turn p q r in
    let wp = weight p q r in
    let wq = weight q r p in
    let wr = weight r p q in
    let ap' = from_centre e.X e.Y e.D p in
    let aq = from_centre e.X e.Y e.D q in
    let ar = from_centre e.X e.Y e.D r in
    let gap : pos 0 ≤ℤ (wp *ℤ (e.Q -ℤ ap') +ℤ wq *ℤ (e.Q -ℤ aq) +ℤ wr *ℤ (e.Q -ℤ ar))
    = add_nonneg (add_nonneg (mul_nonneg (le_of_lt (weight_pos p q r a)) (nonneg_diff i)) (mul_nonneg (le_of_lt (weight_pos q r p (turned a))) (nonneg_diff j)))
    (mul_nonneg (le_of_lt (weight_pos r p q (turned (turned a)))) (nonneg_diff m)) in
    le_by (mul_nonneg (le_of_lt (turn_pos p q r a)) (mul_nonneg {a = pos 2} (record { le = tt }) gap))
    (ring8 (λ k s x y d u v q. num 2 ⊗ (k ⊗ k) ⊗ (num 2 ⊗ (k ⊗ k)) ⊗ q ⊖ (d ⊗ d ⊗ (k ⊗ k ⊗ s) ⊕ squaresE (num 2 ⊗ (k ⊗ k) ⊗ x ⊖ d ⊗ (k ⊗ u)) (num 2 ⊗ (k ⊗ k) ⊗ y ⊖ d ⊗ (k ⊗ v)))
    ≐ k ⊗ k ⊗ (num 2 ⊗ (num 2 ⊗ (k ⊗ k)) ⊗ q ⊖ (d ⊗ d ⊗ s ⊕ squaresE (num 2 ⊗ k ⊗ x ⊖ d ⊗ u) (num 2 ⊗ k ⊗ y ⊖ d ⊗ v)))) refl k (sides p q r) e.X e.Y e.D (centre_x p q r) (centre_y p q r) e.Q
    ∙ ap (λ (z : ℤ). k *ℤ k *ℤ (pos 2 *ℤ z *ℤ e.Q -ℤ (e.D *ℤ e.D *ℤ sides p q r +ℤ squares (pos 2 *ℤ k *ℤ e.X -ℤ e.D *ℤ centre_x p q r) (pos 2 *ℤ k *ℤ e.Y -ℤ e.D *ℤ centre_y p q r)))) (weights p q r)
    ∙ ap (λ (z : ℤ). k *ℤ k *ℤ (pos 2 *ℤ (wp +ℤ wq +ℤ wr) *ℤ e.Q -ℤ z)) (balance p q r e.X e.Y e.D)
    ∙ ring8 (λ k wp wq wr q ap aq ar. k ⊗ k ⊗ (num 2 ⊗ (wp ⊕ wq ⊕ wr) ⊗ q ⊖ num 2 ⊗ (wp ⊗ ap ⊕ wq ⊗ aq ⊕ wr ⊗ ar)) ≐ k ⊗ k ⊗ (num 2 ⊗ (wp ⊗ (q ⊖ ap) ⊕ wq ⊗ (q ⊖ aq) ⊕ wr ⊗ (q ⊖ ar)))) refl k wp wq wr e.Q ap' aq ar)

pub triangle_best : (p q r : Constraint) (a : Acute p q r) → Optimal (triangle p q r (turn_pos p q r a)) (p ∷ q ∷ r ∷ [])
triangle_best p q r a = record {
  all = λ x. elim [
    | inl e ↦ subst (λ z. KeepsPoint (disc (triangle p q r (turn_pos p q r a))) z) (sym e) (triangle_on p q r p (turn_pos p q r a) (on_p p q r))
    | inr (inl e) ↦ subst (λ z. KeepsPoint (disc (triangle p q r (turn_pos p q r a))) z) (sym e) (triangle_on p q r q (turn_pos p q r a) (on_q p q r))
    | inr (inr (inl e)) ↦ subst (λ z. KeepsPoint (disc (triangle p q r (turn_pos p q r a))) z) (sym e) (triangle_on p q r r (turn_pos p q r a) (on_r p q r))
    | inr (inr (inr i)) ↦ absurd i
  ];
  dual = λ e h. triangle_dual p q r a e (h p (inl refl)) (h q (inr (inl refl))) (h r (inr (inr (inl refl))));
}
