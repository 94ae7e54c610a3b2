-- The laws of a parish layer from those of the problem below.
use Rattle.std.specs.Prelude.{◌≡◌, ℕ, ◌≤◌, List, ◌∷◌, length}
use Rattle.rows.specs.declared.row.Constraint.{Constraint}
use Rattle.lptype.specs.Meaning.{Meaning, finite, Equal, Within, Admitted, Quiet, KeepsAll, SameValue}
use Rattle.lptype.specs.Laws.{Laws}
use Rattle.lptype.proofs.Inside.{all_in, all_within, within_admitted}
use Rattle.parish.specs.Layer.{of_parish, over}
use Rattle.parish.specs.Kept.{here, all_kept, kept_within, kept_in, kept_all}
use Rattle.parish.specs.Layers.{layer_laws}

module _ (m : Meaning) (g : ℕ) where
  kept_admitted : (F : List Constraint) → Admitted m F → Admitted m (of_parish g F)
  kept_admitted F = within_admitted m (of_parish g F) F (kept_within g F)

  -- a rival keeps all of a list in the layer where it keeps below all of it that is of the parish, and conversely
  keeps_below : (F : List Constraint) (r : m.Rival) → KeepsAll (over m g) r F → KeepsAll m r (of_parish g F)
  keeps_below F r k x i = k x (kept_within g F x i) (all_in (λ y. y.parish ≡ g) (of_parish g F) x (all_kept g F) i)

  keeps_above : (F : List Constraint) (r : m.Rival) → KeepsAll m r (of_parish g F) → KeepsAll (over m g) r F
  keeps_above F r k x i e = k x (kept_in g F x e i)

module _ (m : Meaning) (l : Laws m) (g : ℕ) where
  few : (F : List Constraint) → Admitted m F → (B : List Constraint) × Within B F × (length B ≤ m.dimension) × SameValue (over m g) B F
  few F a =
      let b = l.few (of_parish g F) (kept_admitted m g F a) in
      let e = kept_all g b.0 (all_within (λ x. x.parish ≡ g) b.0 (of_parish g F) b.1 (all_kept g F)) in
      (b.0, (λ x i. kept_within g F x (b.1 x i)), b.2, rw e b.3)

  keeps_quiet : (F : List Constraint) (h : Constraint) (r : m.Rival) → Admitted m (h ∷ F) → KeepsAll (over m g) r F → Equal m.same (finite (m.size r)) (m.value (of_parish g F)) → Quiet (over m g) F h → h.parish ≡ g → m.keeps r h
  keeps_quiet F h r a k s q e =
      l.rivals.keeps_quiet (of_parish g F) h r (a.0, kept_admitted m g F a.1) (keeps_below m g F r k) s (rw (here g h F e) at q)

  pub over_laws : Laws (over m g)
  over_laws = layer_laws m m.Rival (over m g).keeps m.size (over m g).value l few (record {
    least = λ F r a k. l.rivals.least (of_parish g F) r (kept_admitted m g F a) (keeps_below m g F r k);
    attained = λ F s a e. let r = l.rivals.attained (of_parish g F) s (kept_admitted m g F a) e in (r.0, keeps_above m g F r.0 r.1, r.2);
    none = λ F r a e k. l.rivals.none (of_parish g F) r (kept_admitted m g F a) e (keeps_below m g F r k);
    keeps_quiet = keeps_quiet;
  })
