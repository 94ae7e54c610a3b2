-- The constraints of one parish in a list.
use Rattle.std.specs.Prelude.{◌≡◌, ℕ, true, List, [], ◌∷◌, ◌++◌, ◌==◌, ◌≢◌, nat_eq, refl}
use Rattle.std.proofs.Common.{sym, ap, subst, ◌∙◌, inl, inr}
use Rattle.std.specs.List.{AllByRecursion}
use Rattle.std.proofs.lemmas.List.Elements.{filter-append}
use Rattle.std.proofs.ByRecursion.{All-weaker, kept_by_passes}
use Rattle.std.proofs.lemmas.Bool.{cond-true, cond-false, cond_both, eq-eqb, ne_eqb, eqb-true}
use Rattle.rows.specs.declared.row.Constraint.{Constraint}
use Rattle.lptype.specs.Meaning.{In, Within}
use Rattle.parish.specs.Layer.{of_parish}

module _ (g : ℕ) where
  -- every constraint is of parish g
  abbrev pub AllOf : List Constraint → Type 0
  AllOf F = AllByRecursion (λ x. x.parish ≡ g) F

  pub here : (x : Constraint) (F : List Constraint) → x.parish ≡ g → of_parish g (x ∷ F) ≡ x ∷ of_parish g F
  here x F e = cond-true (x.parish == g) (x ∷ of_parish g F) (of_parish g F) (eq-eqb x.parish g e)

  pub away : (x : Constraint) (F : List Constraint) → (x.parish ≢ g) → of_parish g (x ∷ F) ≡ of_parish g F
  away x F n = cond-false (x.parish == g) (x ∷ of_parish g F) (of_parish g F) (ne_eqb x.parish g n)

  pub all_kept : (F : List Constraint) → AllOf (of_parish g F)
  all_kept F = All-weaker (λ x. (x.parish == g) ≡ true) (λ x. x.parish ≡ g) (λ x. eqb-true x.parish g) (of_parish g F) (kept_by_passes (λ x. nat_eq x.parish g) F)

  pub kept_within : (F : List Constraint) → Within (of_parish g F) F
  kept_within [] x i = i
  kept_within (y ∷ F) x i = cond_both (y.parish == g) (y ∷ of_parish g F) (of_parish g F) (λ l. In x l → In x (y ∷ F))
      (λ _. elim [ inl e ↦ inl e | inr j ↦ inr (kept_within F x j) ])
      (λ _ j. inr (kept_within F x j))
      i

  pub kept_in : (F : List Constraint) (x : Constraint) → x.parish ≡ g → In x F → In x (of_parish g F)
  kept_in [] x e i = i
  kept_in (y ∷ F) x e (inl p) = subst (In x) (sym (here y F (sym (ap (λ r. r.parish) p) ∙ e))) (inl p)
  kept_in (y ∷ F) x e (inr i) = cond_both (y.parish == g) (y ∷ of_parish g F) (of_parish g F) (In x) (λ _. inr (kept_in F x e i)) (λ _. kept_in F x e i)

  pub kept_all : (F : List Constraint) → AllOf F → of_parish g F ≡ F
  kept_all [] a = refl
  kept_all (y ∷ F) a = here y F a.0 ∙ ap (λ l. y ∷ l) (kept_all F a.1)

  -- leaving out a constraint of another parish leaves the same constraints of this one
  pub kept_without : (xs ys : List Constraint) (x : Constraint) → (x.parish ≢ g) → of_parish g (xs ++ (x ∷ ys)) ≡ of_parish g (xs ++ ys)
  kept_without xs ys x n =
      let test = λ (y : Constraint). nat_eq y.parish g in
      filter-append test xs (x ∷ ys) ∙ ap (λ l. of_parish g xs ++ l) (away x ys n) ∙ sym (filter-append test xs ys)
