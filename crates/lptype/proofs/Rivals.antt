-- The value of a list by one best rival, and the laws that follow from the meaning by rivals.
use Rattle.std.proofs.Common.{◌≡◌, true, ◌⊎◌, ◌↔◌, List, ◌∷◌, sym, refl, subst, inl, inr, ⊎_elim}
use Rattle.rows.specs.declared.row.Constraint.{Constraint}
use Rattle.lptype.specs.Meaning.{Meaning, Value, finite, top, Le, Equal, Within, Admitted, Raises, Quiet, KeepsAll, SameValue}
use Rattle.lptype.specs.Laws.{TotalOrder, ByRivals}
use Rattle.lptype.proofs.Order.{up, equal_sym, equal_trans, le_or_less, not_both}

-- r keeps all of F, and its size is the value of F
pub record BestOf (m : Meaning) (F : List Constraint) (r : m.Rival) : Type 0 where
  pub keeps : KeepsAll m r F
  pub sized : Equal m.same (finite (m.size r)) (m.value F)

module _ (m : Meaning) (t : TotalOrder m) (b : ByRivals m) where
  -- the value is top, or some rival is best
  pub best : (F : List Constraint) → Admitted m F → (m.value F ≡ top) ⊎ ((r : m.Rival) × BestOf m F r)
  best F a = go (m.value F) refl
    where
      go : (v : Value m.Size) → m.value F ≡ v → (m.value F ≡ top) ⊎ ((r : m.Rival) × BestOf m F r)
      go top e = inl e
      go (finite s) e = let r = b.attained F s a e in inr (
        r.0,
        record {
          keeps = r.1;
          sized = subst (Equal m.same (finite (m.size r.0))) (sym e) r.2;
        },
      )

  pub monotone : (F G : List Constraint) → Admitted m F → Admitted m G → Within F G → Le m.le (m.value F) (m.value G)
  monotone F G a c w = ⊎_elim
      (λ e. subst (Le m.le (m.value F)) (sym e) refl)
      (λ r. t.transitive (m.value F) (finite (m.size r.0)) (m.value G)
      (b.least F r.0 a (λ x i. r.1.keeps x (w x i)))
      (up m t (finite (m.size r.0)) (m.value G) r.1.sized))
      (best G c)

  pub rows_only : (F G : List Constraint) → Admitted m F → Admitted m G → Within F G → Within G F → SameValue m F G
  rows_only F G a c v w = t.antisymmetric (m.value F) (m.value G) (monotone F G a c v) (monotone G F c a w)

  -- a row that a best rival keeps does not raise the value
  pub quiet_by : (F : List Constraint) (h : Constraint) (r : m.Rival) → Admitted m (h ∷ F) → BestOf m F r → m.keeps r h → Quiet m F h
  quiet_by F h r a k kh = t.transitive (m.value (h ∷ F)) (finite (m.size r)) (m.value F)
      (b.least (h ∷ F) r a (λ x. elim [ inl w ↦ subst (m.keeps r) (sym w) kh | inr i ↦ k.keeps x i ]))
      (up m t (finite (m.size r)) (m.value F) k.sized)

  -- a row raises the value exactly where the best rival does not keep it
  pub raises_by : (F : List Constraint) (h : Constraint) (r : m.Rival) → Admitted m (h ∷ F) → BestOf m F r → Raises m F h ↔ (¬ m.keeps r h)
  raises_by F h r a k = (
    (λ p kh. not_both m (m.value F) (m.value (h ∷ F)) p (quiet_by F h r a k kh)),
    (λ n. ⊎_elim (λ q. absurd (n (b.keeps_quiet F h r a k.keeps k.sized q))) (λ q. q) (le_or_less m (m.value (h ∷ F)) (m.value F))),
  )

  -- no row raises top
  pub top_quiet : (F : List Constraint) (h : Constraint) → m.value F ≡ top → Quiet m F h
  top_quiet F h e = subst (Le m.le (m.value (h ∷ F))) (sym e) refl

  pub local : (F G : List Constraint) (h : Constraint) → Admitted m F → Admitted m (h ∷ G) → Within F G → SameValue m F G → Raises m G h → Raises m F h
  local F G h a c w e p = ⊎_elim
      (λ z. absurd (not_both m (m.value G) (m.value (h ∷ G)) p (top_quiet G h z)))
      (λ r. let k : BestOf m F r.0 = record {
        keeps = λ x i. r.1.keeps x (w x i);
        sized = equal_trans m t (finite (m.size r.0)) (m.value G) (m.value F) r.1.sized (equal_sym m t (m.value F) (m.value G) e);
      } in
      (raises_by F h r.0 (c.0, a) k).1 ((raises_by G h r.0 c r.1).0 p))
      (best G c.1)

  -- a rival that keeps all of F, and is no larger than any that does, is best
  pub value_by : (F : List Constraint) (r : m.Rival) → Admitted m F → KeepsAll m r F → ((s : m.Rival) → KeepsAll m s F → m.le (m.size r) (m.size s) ≡ true) → BestOf m F r
  value_by F r a k h = record {
    keeps = k;
    sized = t.antisymmetric (finite (m.size r)) (m.value F)
        (⊎_elim
        (λ e. subst (Le m.le (finite (m.size r))) (sym e) refl)
        (λ s. t.transitive (finite (m.size r)) (finite (m.size s.0)) (m.value F)
        (h s.0 s.1.keeps)
        (up m t (finite (m.size s.0)) (m.value F) s.1.sized))
        (best F a))
        (b.least F r a k);
  }
