-- What a parish layer answers, from what it asks of the problem below.
use Rattle.std.proofs.Common.{◌≡◌, ℕ, ◌↔◌, List, [], ◌∷◌, ◌++◌, Some, None, Option, sym, ap, ◌∙◌, subst, inl, inr, ⊎_elim}
use Rattle.std.proofs.lemmas.Bool.{cases_eq}
use Rattle.rows.specs.declared.row.Constraint.{Constraint}
use Rattle.lptype.specs.Meaning.{Meaning, In, Raises, Stands}
use Rattle.lptype.specs.Laws.{Laws}
use Rattle.lptype.specs.Questions.{Best, ReadsBest}
use Rattle.lptype.proofs.Inside.{all_from_in, all_within, front_between}
use Rattle.parish.specs.Layer.{of_parish, over}
use Rattle.parish.specs.Kept.{AllOf, here, away, kept_all, kept_without}
use Rattle.parish.specs.Layers.{not_below_itself}

split : (F : List Constraint) (x : Constraint) → In x F → (xs : List Constraint) × (ys : List Constraint) × (F ≡ xs ++ (x ∷ ys))
split [] x i = absurd i
split (y ∷ F) x (inl e) = ([], F, ap (λ z. z ∷ F) (sym e))
split (y ∷ F) x (inr i) = let s = split F x i in (y ∷ s.0, s.1, ap (λ k. y ∷ k) s.2)

module _ (m : Meaning) (l : Laws m) (g : ℕ) where
  -- rows that stand in the layer are all of the parish
  all_standing : (F : List Constraint) → Stands (over m g) F → AllOf g F
  all_standing F s = all_from_in (λ x. x.parish ≡ g) F (λ x i. ⊎_elim (λ e. e)
      (λ n.
      let p = split F x i in
      let e : of_parish g F ≡ of_parish g (p.0 ++ p.1) = ap (of_parish g) p.2 ∙ kept_without g p.0 p.1 x n in
      absurd (not_below_itself m l (m.value (of_parish g (p.0 ++ p.1))) (rw e at (s.without p.0 p.1 x p.2))))
      (cases_eq x.parish g))

  module _ (F : List Constraint) (a : AllOf g F) where
    kept_part : (xs ys : List Constraint) (x : Constraint) → F ≡ xs ++ (x ∷ ys) → of_parish g (xs ++ ys) ≡ xs ++ ys
    kept_part xs ys x e = kept_all g (xs ++ ys) (all_within (λ y. y.parish ≡ g) (xs ++ ys) F (λ y i. subst (In y) (sym e) (front_between xs ys x y (inr i))) a)

    -- rows that are all of the parish stand in the layer exactly where they stand below
    stands_over : Stands m F ↔ Stands (over m g) F
    stands_over = (
      (λ s. record { without = λ xs ys x e. rw (kept_part xs ys x e, kept_all g F a) (s.without xs ys x e) }),
      (λ s. record { without = λ xs ys x e. rw (kept_part xs ys x e, kept_all g F a) at (s.without xs ys x e) }),
    )

    -- a row raises their value in the layer exactly where it is of the parish and raises it below
    raises_over : (h : Constraint) → ((h.parish ≡ g) × Raises m F h) ↔ Raises (over m g) F h
    raises_over h = (
      (λ r. rw (here g h F r.0, kept_all g F a) r.1),
      (λ r. ⊎_elim
          (λ e. (e, rw (here g h F e, kept_all g F a) at r))
          (λ n. absurd (not_below_itself m l (m.value (of_parish g F)) (rw (away g h F n) at r)))
          (cases_eq h.parish g)),
    )

    best_over : (o : Option m.Rival) → Best m F o → Best (over m g) F o
    best_over None b = rw (kept_all g F a) b
    best_over (Some r) b = ((λ x i _. b.0 x i), rw (kept_all g F a) b.1)

  -- rows stand in the layer exactly where they are all of the parish and stand below
  pub inside_stands : (F : List Constraint) → (AllOf g F × Stands m F) ↔ Stands (over m g) F
  inside_stands F = (
    (λ i. (stands_over F i.0).0 i.1),
    (λ s. let a = all_standing F s in (a, (stands_over F a).1 s)),
  )

  module _ (F : List Constraint) (s : Stands (over m g) F) where
    pub inside_raises : (h : Constraint) → ((h.parish ≡ g) × Raises m F h) ↔ Raises (over m g) F h
    inside_raises h = raises_over F (all_standing F s) h

    pub inside_best : {A : Type 0} (reads : A → Option m.Rival → Type 0) (k : A) → ReadsBest m reads F k → ReadsBest (over m g) reads F k
    inside_best reads k b = (b.0, b.1, best_over F (all_standing F s) b.0 b.2)
