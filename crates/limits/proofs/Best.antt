-- The least of the points that keep all limits: it keeps them, and no other is smaller.
use Rattle.std.proofs.Common.{◌≡◌, Bool, true, false, cond, ◌⊎◌, List, [], ◌∷◌, ◌++◌, sym, refl, subst, inl, inr, ⊎_elim}
use Rattle.std.proofs.lemmas.Bool.{both_ways, false≢true, and_from, and_parts}
use Rattle.rows.specs.declared.row.Constraint.{Constraint}
use Rattle.lptype.specs.Meaning.{Value, finite, top, In, Le}
use Rattle.lptype.specs.Laws.{TotalOrder}
use Rattle.lptype.proofs.Order.{SizeOrder, values_ordered}
use Rattle.algebra.specs.Point.{Point}
use Rattle.algebra.proofs.Order.{le_z_in, le_z_out}
use Rattle.limits.specs.Forms.{Form, no_more}
use Rattle.limits.specs.Crossings.{KeepsEvery, Keeps, kept, all_kept}
use Rattle.limits.specs.Least.{better, improved, best}
use Rattle.limits.specs.Plane.{plane_by}
use Rattle.limits.proofs.Directions.{no_more_refl, no_more_trans, no_more_total, no_more_antisym, alike_le, alike_sym}

pub sizes : (fs : List Form) → SizeOrder (plane_by fs)
sizes fs = record {
  reflexive = no_more_refl fs;
  transitive = no_more_trans fs;
  comparable = no_more_total fs;
  antisymmetric = no_more_antisym fs;
  equal_le = λ s t e. (alike_le fs s t e, alike_le fs t s (alike_sym fs s t e));
}

pub order : (fs : List Form) → TotalOrder (plane_by fs)
order fs = values_ordered (plane_by fs) (sizes fs)

-- the test of each limit

pub kept_all : (z : Point) (G : List Constraint) → all_kept z G ≡ true → KeepsEvery z G
unfolding all_kept
kept_all z [] e g i = absurd i
kept_all z (x ∷ G) e g (inl j) = subst (Keeps z) (sym j) (le_z_out (and_parts (kept z x) (all_kept z G) e).0)
kept_all z (x ∷ G) e g (inr j) = kept_all z G (and_parts (kept z x) (all_kept z G) e).1 g j

pub all_kept_by : (z : Point) (G : List Constraint) → KeepsEvery z G → all_kept z G ≡ true
unfolding all_kept
all_kept_by z [] k = refl
all_kept_by z (x ∷ G) k = and_from (kept z x) (all_kept z G) (le_z_in (k x (inl refl))) (all_kept_by z G (λ g i. k g (inr i)))

-- the least

module _ (fs : List Form) where
  better_left : (y : Point) (B : Value Point) → Le (no_more fs) (better fs y B) (finite y)
  better_left y top = no_more_refl fs y
  better_left y (finite w) = go (no_more fs y w) refl
    where
      go : (b : Bool) → no_more fs y w ≡ b → Le (no_more fs) (cond b (finite y) (finite w)) (finite y)
      go true e = no_more_refl fs y
      go false e = ⊎_elim (λ t. absurd (both_ways _ e t)) (λ t. t) (no_more_total fs y w)

  better_right : (y : Point) (B : Value Point) → Le (no_more fs) (better fs y B) B
  better_right y top = refl
  better_right y (finite w) = go (no_more fs y w) refl
    where
      go : (b : Bool) → no_more fs y w ≡ b → Le (no_more fs) (cond b (finite y) (finite w)) (finite w)
      go true e = e
      go false e = no_more_refl fs w

  better_is : (y s : Point) (B : Value Point) → better fs y B ≡ finite s → (s ≡ y) ⊎ (B ≡ finite s)
  better_is y s top e = let f : y ≡ s = cc in inl (sym f)
  better_is y s (finite w) e = go (no_more fs y w) e
    where
      go : (b : Bool) → cond b (finite y) (finite w) ≡ finite s → (s ≡ y) ⊎ (finite w ≡ finite s)
      go true e = let f : y ≡ s = cc in inl (sym f)
      go false e = inr e

  improved_before : (G : List Constraint) (v : Value Point) (z : Point) → Le (no_more fs) (improved fs G v z) v
  improved_before G v z = elim (all_kept z G) as (λ b. Le (no_more fs) (cond b (better fs z v) v) v) [ true ↦ better_right z v | false ↦ (order fs).reflexive v ]

  improved_point : (G : List Constraint) (v : Value Point) (z : Point) → all_kept z G ≡ true → Le (no_more fs) (improved fs G v z) (finite z)
  improved_point G v z t = subst (λ b. Le (no_more fs) (cond b (better fs z v) v) (finite z)) (sym t) (better_left z v)

  best_before : (G : List Constraint) (v : Value Point) (Z : List Point) → Le (no_more fs) (best fs G v Z) v
  unfolding best
  best_before G v [] = (order fs).reflexive v
  best_before G v (y ∷ Z) = (order fs).transitive (best fs G (improved fs G v y) Z) (improved fs G v y) v (best_before G (improved fs G v y) Z) (improved_before G v y)

  pub best_least : (G : List Constraint) (v : Value Point) (Z : List Point) (z : Point) → In z Z → KeepsEvery z G → Le (no_more fs) (best fs G v Z) (finite z)
  unfolding best
  best_least G v [] z i k = absurd i
  best_least G v (y ∷ Z) z (inl e) k =
      let w = improved fs G v y in
      (order fs).transitive (best fs G w Z) w (finite z) (best_before G w Z)
      (subst (λ p. Le (no_more fs) w (finite p)) (sym e) (improved_point G v y (subst (λ p. all_kept p G ≡ true) e (all_kept_by z G k))))
  best_least G v (y ∷ Z) z (inr i) k = best_least G (improved fs G v y) Z z i k

  -- what is found keeps G, where what was found before does
  abbrev Keeping : List Constraint → Value Point → Type 0
  Keeping G v = (s : Point) → v ≡ finite s → KeepsEvery s G

  improved_keeping : (G : List Constraint) (v : Value Point) (z : Point) → Keeping G v → Keeping G (improved fs G v z)
  improved_keeping G v z k s e = go (all_kept z G) refl e
    where
      go : (b : Bool) → all_kept z G ≡ b → cond b (better fs z v) v ≡ finite s → KeepsEvery s G
      go true f e = ⊎_elim (λ p. subst (λ w. KeepsEvery w G) (sym p) (kept_all z G f)) (k s) (better_is z s v e)
      go false f e = k s e

  best_keeping : (G : List Constraint) (v : Value Point) (Z : List Point) → Keeping G v → Keeping G (best fs G v Z)
  unfolding best
  best_keeping G v [] k = k
  best_keeping G v (z ∷ Z) k = best_keeping G (improved fs G v z) Z (improved_keeping G v z k)

  top_keeping : (G : List Constraint) → Keeping G top
  top_keeping G s e = let z : false ≡ true = cc in absurd (false≢true z)

  pub best_one : (G : List Constraint) (Z : List Point) (s : Point) → best fs G top Z ≡ finite s → KeepsEvery s G
  best_one G Z = best_keeping G top Z (top_keeping G)

  -- one list of points after another
  pub best_append : (G : List Constraint) (v : Value Point) (Y Z : List Point) → best fs G v (Y ++ Z) ≡ best fs G (best fs G v Y) Z
  unfolding best
  best_append G v [] Z = refl
  best_append G v (y ∷ Y) Z = best_append G (improved fs G v y) Y Z

  pub best_none : (G : List Constraint) (v : Value Point) → best fs G v [] ≡ v
  unfolding best
  best_none G v = refl

  pub best_single : (G : List Constraint) (v : Value Point) (z : Point) → best fs G v (z ∷ []) ≡ improved fs G v z
  unfolding best
  best_single G v z = refl
