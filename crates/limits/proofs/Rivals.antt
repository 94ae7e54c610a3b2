-- The value of rows by the rivals: no rival is below it, one attains it, there is none at top, and equal sizes are one point.
use Rattle.std.proofs.Common.{◌≡◌, true, List, ◌∷◌, ℤ, pos, negsuc, ◌+ℤ◌, ◌*ℤ◌, neg_ℤ, ◌≤ℤ◌, sym, refl, subst, inl, inr, arith}
use Rattle.std.proofs.lemmas.Bool.{false≢true}
use Rattle.rows.specs.declared.row.Constraint.{Constraint}
use Rattle.lptype.specs.Meaning.{Value, finite, top, In, Le, Equal}
use Rattle.lptype.specs.Laws.{ByRivals}
use Rattle.algebra.specs.Point.{Point}
use Rattle.algebra.proofs.Ring.{num, lit, ◌⊕◌, ◌⊗◌, ⊝, ◌≐◌, ring2}
use Rattle.algebra.proofs.Order.{lin}
use Rattle.limits.specs.Forms.{Form, no_more, Alike, Separates}
use Rattle.limits.specs.Crossings.{KeepsEvery, Keeps, crossings}
use Rattle.limits.specs.Least.{side, limits, best, least_crossing}
use Rattle.limits.specs.Plane.{Rival, plane_by}
use Rattle.limits.proofs.Directions.{no_more_antisym, no_more_trans, alike_refl, alike_le, alike_sym}
use Rattle.limits.proofs.Rounding.{round, same_keeps}
use Rattle.limits.proofs.Best.{order, best_least, best_one}

-- the square as limits

east : (x y : ℤ) → x ≡ pos 1 *ℤ x +ℤ pos 0 *ℤ y
east = ring2 (λ x y. x ≐ num 1 ⊗ x ⊕ num 0 ⊗ y) refl

west : (x y : ℤ) → neg_ℤ x ≡ negsuc 0 *ℤ x +ℤ pos 0 *ℤ y
west = ring2 (λ x y. ⊝ x ≐ lit (negsuc 0) ⊗ x ⊕ num 0 ⊗ y) refl

north : (x y : ℤ) → y ≡ pos 0 *ℤ x +ℤ pos 1 *ℤ y
north = ring2 (λ x y. y ≐ num 0 ⊗ x ⊕ num 1 ⊗ y) refl

south : (x y : ℤ) → neg_ℤ y ≡ pos 0 *ℤ x +ℤ negsuc 0 *ℤ y
south = ring2 (λ x y. ⊝ y ≐ num 0 ⊗ x ⊕ lit (negsuc 0) ⊗ y) refl

turn : {x m : ℤ} → neg_ℤ m ≤ℤ x → neg_ℤ x ≤ℤ m
turn {x} {m} h = omega (arith, lin)

turn_back : {x m : ℤ} → neg_ℤ x ≤ℤ m → neg_ℤ m ≤ℤ x
turn_back {x} {m} h = omega (arith, lin)

pub all_limits : (F : List Constraint) (r : Rival) → ((x : Constraint) → In x F → Keeps r.point x) → KeepsEvery r.point (limits F)
all_limits F r k g (inl e) = subst (Keeps r.point) (sym e) (subst (λ v. v ≤ℤ (pos 1000000 *ℤ r.point.D)) (east r.point.X r.point.Y) r.east)
all_limits F r k g (inr (inl e)) = subst (Keeps r.point) (sym e) (subst (λ v. v ≤ℤ (pos 1000000 *ℤ r.point.D)) (west r.point.X r.point.Y) (turn r.west))
all_limits F r k g (inr (inr (inl e))) = subst (Keeps r.point) (sym e) (subst (λ v. v ≤ℤ (pos 1000000 *ℤ r.point.D)) (north r.point.X r.point.Y) r.north)
all_limits F r k g (inr (inr (inr (inl e)))) = subst (Keeps r.point) (sym e) (subst (λ v. v ≤ℤ (pos 1000000 *ℤ r.point.D)) (south r.point.X r.point.Y) (turn r.south))
all_limits F r k g (inr (inr (inr (inr i)))) = k g i

pub rival : (F : List Constraint) (z : Point) → KeepsEvery z (limits F) → Rival
rival F z k = record {
  point = z;
  west = turn_back (subst (λ v. v ≤ℤ (pos 1000000 *ℤ z.D)) (sym (west z.X z.Y)) (k (side (negsuc 0) (pos 0)) (inr (inl refl))));
  east = subst (λ v. v ≤ℤ (pos 1000000 *ℤ z.D)) (sym (east z.X z.Y)) (k (side (pos 1) (pos 0)) (inl refl));
  south = turn_back (subst (λ v. v ≤ℤ (pos 1000000 *ℤ z.D)) (sym (south z.X z.Y)) (k (side (pos 0) (negsuc 0)) (inr (inr (inr (inl refl))))));
  north = subst (λ v. v ≤ℤ (pos 1000000 *ℤ z.D)) (sym (north z.X z.Y)) (k (side (pos 0) (pos 1)) (inr (inr (inl refl))));
}

pub more_limits : (F : List Constraint) (h g : Constraint) → In g (limits F) → In g (limits (h ∷ F))
more_limits F h g (inl e) = inl e
more_limits F h g (inr (inl e)) = inr (inl e)
more_limits F h g (inr (inr (inl e))) = inr (inr (inl e))
more_limits F h g (inr (inr (inr (inl e)))) = inr (inr (inr (inl e)))
more_limits F h g (inr (inr (inr (inr i)))) = inr (inr (inr (inr (inr i))))

-- the least crossing is the least point

pub value_least : (fs : List Form) (F : List Constraint) (z : Point) → KeepsEvery z (limits F) → Le (no_more fs) (least_crossing fs F) (finite z)
value_least fs F z k =
    let w = round fs F z k in
    (order fs).transitive (best fs (limits F) top (crossings (limits F))) (finite w.to) (finite z)
    (best_least fs (limits F) top (crossings (limits F)) w.to w.crosses w.keeps) w.no_larger

pub value_kept : (fs : List Form) (F : List Constraint) (s : Point) → least_crossing fs F ≡ finite s → KeepsEvery s (limits F)
value_kept fs F s e = best_one fs (limits F) (crossings (limits F)) s e

pub value_quiet : (fs : List Form) → Separates fs → (F : List Constraint) (h : Constraint) (z : Point) → Equal (Alike fs) (finite z) (least_crossing fs F) → Le (no_more fs) (least_crossing fs (h ∷ F)) (least_crossing fs F) → Keeps z h
value_quiet fs sep F h z e q = go (least_crossing fs F) (least_crossing fs (h ∷ F)) refl refl e q
  where
    go : (v w : Value Point) → least_crossing fs F ≡ v → least_crossing fs (h ∷ F) ≡ w → Equal (Alike fs) (finite z) v → Le (no_more fs) w v → Keeps z h
    go top w p p' e q = absurd e
    go (finite s) top p p' e q = absurd (false≢true q)
    go (finite s) (finite t) p p' e q =
        let kt = value_kept fs (h ∷ F) t p' in
        let st : no_more fs s t ≡ true = subst (λ v. Le (no_more fs) v (finite t)) p (value_least fs F t (λ g i. kt g (more_limits F h g i))) in
        let zt = no_more_trans fs z s t (alike_le fs z s e) st in
        let tz = no_more_trans fs t s z q (alike_le fs s z (alike_sym fs z s e)) in
        same_keeps z t h (sep z t (no_more_antisym fs z t zt tz)) (kt h (inr (inr (inr (inr (inl refl))))))

pub by_rivals : (fs : List Form) → Separates fs → ByRivals (plane_by fs)
unfolding rival
by_rivals fs sep = record {
  least = λ F r a k. value_least fs F r.point (all_limits F r k);
  attained = λ F s a e. let k = value_kept fs F s e in (rival F s k, λ x i. k x (inr (inr (inr (inr i)))), alike_refl fs s);
  none = λ F r a e k. false≢true (subst (λ v. Le (no_more fs) v (finite r.point)) e (value_least fs F r.point (all_limits F r k)));
  keeps_quiet = λ F h r a k e q. value_quiet fs sep F h r.point e q;
}
