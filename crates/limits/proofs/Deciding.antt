-- A row raises the value where the least point misses it; a list of at most three rows stands where each is missed by the least point of the others.
use Rattle.std.proofs.Common.{◌≡◌, Bool, true, ◌&&◌, List, [], ◌∷◌, ◌++◌, Decides, sym, refl, subst, inl, inr, ⊎_elim, arith}
use Rattle.std.proofs.lemmas.Bool.{cases_Bool, both_ways, false≢true, and_from, and_parts, not-true, not_from_false}
use Rattle.rows.specs.declared.row.Constraint.{Constraint}
use Rattle.lptype.specs.Meaning.{Value, finite, top, at_most, Le, Less, Equal, Admitted, Raises, Stands}
use Rattle.lptype.proofs.Inside.{front_between, between_front}
use Rattle.lptype.proofs.Order.{less_le}
use Rattle.lptype.proofs.Outs.{EachOut, out_split, split_out}
use Rattle.lptype.proofs.Standing.{too_long}
use Rattle.algebra.specs.Point.{Point}
use Rattle.algebra.proofs.Order.{le_z_in, le_z_out}
use Rattle.limits.specs.Forms.{Form, no_more, Alike, Separates}
use Rattle.limits.specs.Crossings.{KeepsEvery, Keeps, kept}
use Rattle.limits.specs.Least.{limits, least_crossing}
use Rattle.limits.specs.Plane.{plane_by}
use Rattle.limits.specs.Standing.{misses, standing}
use Rattle.limits.proofs.Directions.{alike_refl}
use Rattle.limits.proofs.Best.{order}
use Rattle.limits.proofs.Rivals.{value_least, value_kept, value_quiet}
use Rattle.limits.proofs.Few.{value_mono}
use Rattle.limits.proofs.Lawful.{plane_by_laws}

-- a row raises the value

with_row : (B : List Constraint) (h : Constraint) (s : Point) → KeepsEvery s (limits B) → Keeps s h → KeepsEvery s (limits (h ∷ B))
with_row B h s k p g (inl e) = k g (inl e)
with_row B h s k p g (inr (inl e)) = k g (inr (inl e))
with_row B h s k p g (inr (inr (inl e))) = k g (inr (inr (inl e)))
with_row B h s k p g (inr (inr (inr (inl e)))) = k g (inr (inr (inr (inl e))))
with_row B h s k p g (inr (inr (inr (inr (inl e))))) = subst (Keeps s) (sym e) p
with_row B h s k p g (inr (inr (inr (inr (inr i))))) = k g (inr (inr (inr (inr i))))

module _ (fs : List Form) (sep : Separates fs) where
  pub violates_decides : (B : List Constraint) (h : Constraint) → Decides (misses (least_crossing fs B) h) (Raises (plane_by fs) B h)
  violates_decides B h = (raises (least_crossing fs B) refl, missed (least_crossing fs B) refl)
    where
      raises : (v : Value Point) → least_crossing fs B ≡ v → misses v h ≡ true → Less (no_more fs) v (least_crossing fs (h ∷ B))
      raises top e t = absurd (false≢true t)
      raises (finite s) e t = ⊎_elim
          (λ q. absurd (both_ways (kept s h) (not-true (kept s h) t) (le_z_in (value_quiet fs sep B h s (subst (Equal (Alike fs) (finite s)) (sym e) (alike_refl fs s)) (subst (Le (no_more fs) (least_crossing fs (h ∷ B))) (sym e) q)))))
          (λ q. q)
          (cases_Bool (at_most (no_more fs) (least_crossing fs (h ∷ B)) (finite s)))

      missed : (v : Value Point) → least_crossing fs B ≡ v → Less (no_more fs) v (least_crossing fs (h ∷ B)) → misses v h ≡ true
      missed top e l = absurd (both_ways true l refl)
      missed (finite s) e l = ⊎_elim
          (λ t. absurd (both_ways _ l (value_least fs (h ∷ B) s (with_row B h s (value_kept fs B s e) (le_z_out t)))))
          (λ t. not_from_false (kept s h) t)
          (cases_Bool (kept s h))

  -- a list stands

  -- leaving out x lowers the value where the least point of the others misses x
  out_decides : (xs ys : List Constraint) (x : Constraint) → Decides (misses (least_crossing fs (xs ++ ys)) x) (Less (no_more fs) (least_crossing fs (xs ++ ys)) (least_crossing fs (xs ++ (x ∷ ys))))
  out_decides xs ys x =
      let others = least_crossing fs (xs ++ ys) in
      let front = least_crossing fs (x ∷ (xs ++ ys)) in
      let all = least_crossing fs (xs ++ (x ∷ ys)) in
      let d = violates_decides (xs ++ ys) x in (
        (λ t. less_le (plane_by fs) (order fs) others front all (d.0 t) (value_mono fs (x ∷ (xs ++ ys)) (xs ++ (x ∷ ys)) (front_between xs ys x))),
        (λ l. d.1 (less_le (plane_by fs) (order fs) others all front l (value_mono fs (xs ++ (x ∷ ys)) (x ∷ (xs ++ ys)) (between_front xs ys x)))),
      )

  abbrev Lower : List Constraint → List Constraint → Type 0
  Lower B F = Less (no_more fs) (least_crossing fs F) (least_crossing fs B)

  out_stands : (B : List Constraint) (b : Bool) → Decides b (EachOut (Lower B) B) → Decides b (Stands (plane_by fs) B)
  out_stands B b d = (
    (λ t. record { without = out_split (Lower B) B (d.0 t) }),
    (λ s. d.1 (split_out (Lower B) B s.without)),
  )

  both_decide : (a b : Bool) (P Q : Type 0) → Decides a P → Decides b Q → Decides (a && b) (P × Q)
  both_decide a b P Q d e = (
    (λ t. let p = and_parts a b t in (d.0 p.0, e.0 p.1)),
    (λ q. and_from a b (d.1 q.0) (e.1 q.1)),
  )

  last_decides : (b : Bool) (P : Type 0) → Decides b P → Decides b (P × Unit {0})
  last_decides b P d = ((λ t. (d.0 t, tt)), (λ q. d.1 q.0))

  pub standing_decides : (B : List Constraint) → Admitted (plane_by fs) B → Decides (standing fs B) (Stands (plane_by fs) B)
  standing_decides [] a = out_stands [] true ((λ _. tt), (λ _. refl))
  standing_decides (f ∷ []) a =
      let B = f ∷ [] in
      let F = least_crossing fs [] in
      out_stands B (misses F f) (last_decides (misses F f) (Lower B []) (out_decides [] [] f))
  standing_decides (f ∷ g ∷ []) a =
      let B = f ∷ g ∷ [] in
      let F = least_crossing fs (g ∷ []) in
      let G = least_crossing fs (f ∷ []) in
      out_stands B (misses F f && misses G g)
      (both_decide (misses F f) (misses G g) (Lower B (g ∷ [])) (Lower B (f ∷ []) × Unit {0}) (out_decides [] (g ∷ []) f)
      (last_decides (misses G g) (Lower B (f ∷ [])) (out_decides (f ∷ []) [] g)))
  standing_decides (f ∷ g ∷ h ∷ []) a =
      let B = f ∷ g ∷ h ∷ [] in
      let F = least_crossing fs (g ∷ h ∷ []) in
      let G = least_crossing fs (f ∷ h ∷ []) in
      let H = least_crossing fs (f ∷ g ∷ []) in
      out_stands B (misses F f && (misses G g && misses H h))
      (both_decide (misses F f) (misses G g && misses H h) (Lower B (g ∷ h ∷ [])) (Lower B (f ∷ h ∷ []) × (Lower B (f ∷ g ∷ []) × Unit {0})) (out_decides [] (g ∷ h ∷ []) f)
      (both_decide (misses G g) (misses H h) (Lower B (f ∷ h ∷ [])) (Lower B (f ∷ g ∷ []) × Unit {0}) (out_decides (f ∷ []) (h ∷ []) g)
      (last_decides (misses H h) (Lower B (f ∷ g ∷ [])) (out_decides (f ∷ g ∷ []) [] h))))
  standing_decides (f ∷ g ∷ h ∷ k ∷ F) a = (
    (λ t. absurd (false≢true t)),
    (λ s. absurd (too_long (plane_by fs) (plane_by_laws fs sep) (f ∷ g ∷ h ∷ k ∷ F) a (omega arith) s)),
  )
