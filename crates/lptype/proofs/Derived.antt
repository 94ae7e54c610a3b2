-- All six laws from what a problem owes; and a sublist without violators has the whole value.
use Rattle.std.proofs.Common.{◌≤◌, ◌↔◌, List, ◌∷◌, length, sym, refl, subst, inl, inr, ⊎_elim}
use Rattle.rows.specs.declared.row.Constraint.{Constraint}
use Rattle.lptype.specs.Meaning.{Meaning, finite, Le, Within, In, Admitted, Raises, Quiet, SameValue}
use Rattle.lptype.specs.Laws.{Laws, ByRivals}
use Rattle.lptype.specs.Places.{Fine}
use Rattle.lptype.proofs.Inside.{all_in, within_admitted}
use Rattle.lptype.proofs.Order.{SizeOrder, values_ordered, up, down, less_le, le_less}
use Rattle.lptype.proofs.Rivals.{best, monotone, rows_only, local}

-- what a problem owes: the order of sizes, the small witness, the meaning by rivals and a dimension from one to eight
pub record Owed (m : Meaning) : Type 0 where
  pub sizes : SizeOrder m
  pub few : (F : List Constraint) → Admitted m F → (B : List Constraint) × Within B F × (length B ≤ m.dimension) × SameValue m B F
  pub rivals : ByRivals m
  pub dimension_positive : 1 ≤ m.dimension
  pub dimension_small : m.dimension ≤ 8

pub laws : (m : Meaning) → Owed m → Laws m
laws m o = let t = values_ordered m o.sizes in record {
  order = t;
  rows_only = rows_only m t o.rivals;
  monotone = monotone m t o.rivals;
  local = local m t o.rivals;
  few = o.few;
  rivals = o.rivals;
  dimension_positive = o.dimension_positive;
  dimension_small = o.dimension_small;
}

module _ (m : Meaning) (l : Laws m) where
  -- a sublist that no row of the list raises has the value of the list
  pub whole : (F G : List Constraint) → Admitted m G → Within F G → ((x : Constraint) → In x G → Quiet m F x) → SameValue m F G
  whole F G c w q =
      let a = within_admitted m F G w c in
      l.order.antisymmetric (m.value F) (m.value G) (l.monotone F G a c w) (⊎_elim
      (λ e. subst (Le m.le (m.value G)) (sym e) refl)
      (λ r. l.order.transitive (m.value G) (finite (m.size r.0)) (m.value F)
      (l.rivals.least G r.0 c (λ x i. l.rivals.keeps_quiet F x r.0 (all_in (Fine m) G x c i, a) r.1.keeps r.1.sized (q x i)))
      (up m l.order (finite (m.size r.0)) (m.value F) r.1.sized))
      (best m l.order l.rivals F a))

  -- a row raises a part of equal value exactly where it raises the whole
  pub same_raises : (F G : List Constraint) (h : Constraint) → Admitted m (h ∷ G) → Within F G → SameValue m F G → Raises m F h ↔ Raises m G h
  same_raises F G h c w e =
      let a = within_admitted m F G w c.1 in (
        (λ p. le_less m l.order (m.value G) (m.value F) (m.value (h ∷ G)) (down m l.order (m.value F) (m.value G) e)
            (less_le m l.order (m.value F) (m.value (h ∷ F)) (m.value (h ∷ G)) p
            (l.monotone (h ∷ F) (h ∷ G) (c.0, a) c (λ x. elim [ inl k ↦ inl k | inr i ↦ inr (w x i) ])))),
        l.local F G h a c w e,
      )
