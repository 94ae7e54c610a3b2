-- What enter, strike and restore make of a register's table, order and basis.
use Rattle.std.proofs.Common.{◌≡◌, ℕ, zero, suc, ◌+◌, ◌<◌, true, false, eqb, ◌⊎◌, List, [], ◌∷◌, ◌++◌, map, length, get_or, take, set, ℤ, pos, nat_abs, ◌≤ℤ◌, Ok, Err, Result, sym, refl, ap, ◌∙◌, subst, inl, inr, ⊎_elim, arith, length-append, length-take, get_or-set_other, get_or-take, get_or-set_same}
use Rattle.std.proofs.ByRecursion.{All-push}
use Rattle.std.proofs.lemmas.List.{take_more_set, get_or_append_left, map_push}
use Rattle.std.proofs.lemmas.Int.{ints, by_lt_z}
use Rattle.std.proofs.lemmas.Bool.{cases_eq, or_left, or_right, or_cases, eq-eqb}
use Rattle.rows.specs.Row.{HasRow, at, picked, row_at, no_row, open_row}
use Rattle.rows.specs.declared.row.Constraint.{Constraint}
use Rattle.rows.specs.declared.row.Row.{Row}
use Rattle.rows.specs.declared.row.Mark.{Mark}
use Rattle.rows.specs.declared.row.Mark.TheVariants.{Open, Struck}
use Rattle.rows.specs.declared.refusal.Refusal.{Refusal}
use Rattle.lptype.specs.Meaning.{Meaning, In, Admitted, Stands}
use Rattle.lptype.proofs.Standing.{stands_by}
use Rattle.register.specs.Table.{marked}
use Rattle.checking.specs.Filed.{has_open, OnOpen, AllBelow, occurs, Covers}
use Rattle.register.specs.State.{State, Good, Became, entered, with_mark, Emptied, StruckAt, restored, MarkAnswer, BasisAfter, MarkedAt}
use Rattle.checking.proofs.Occurring.{in_at}
use Rattle.checking.proofs.Opening.{opens, opened}
use Rattle.register.proofs.Marking.{marked_length, marked_there, marked_elsewhere, marked_constraints, marked_picked}

pub same_state : {rows rows' : List Row} {order order' : List ℕ} {basis basis' : List ℤ} → rows ≡ rows' → order ≡ order' → basis ≡ basis'
    → ◌≡◌ {A = State} (record { rows = rows; order = order; basis = basis }) (record { rows = rows'; order = order'; basis = basis' })
same_state e f g = cc

-- ---- enter

module _ (rows : List Row) (row : Row) where
  still_open : (p : ℤ) → has_open rows p ≡ true → has_open (rows ++ (row ∷ [])) p ≡ true
  still_open p e =
      let h = opens rows p e in
      let same : row_at (rows ++ (row ∷ [])) p ≡ row_at rows p = get_or_append_left rows (row ∷ []) no_row (nat_abs p) h.0.1 in
      opened (rows ++ (row ∷ [])) p (h.0.0, omega (arith, length-append rows (row ∷ []), h.0.1)) (ap (λ r. r.mark) same ∙ h.1)

  pub filed_entered : (ps : List ℤ) → OnOpen rows ps → OnOpen (rows ++ (row ∷ [])) ps
  filed_entered ps f k l = still_open (get_or ps k (pos 0)) (f k l)

  picked_entered : (ps : List ℤ) → OnOpen rows ps → picked (rows ++ (row ∷ [])) ps ≡ picked rows ps
  picked_entered [] f = refl
  picked_entered (p ∷ ps) f =
      ap (λ x. x ∷ picked (rows ++ (row ∷ [])) ps) (ap (λ r. r.constraint) (get_or_append_left rows (row ∷ []) no_row (nat_abs p) (opens rows p (f 0 (omega arith))).0.1))
      ∙ ap (λ F. at rows p ∷ F) (picked_entered ps (λ k l. f (suc k) (omega arith)))

pub good_entered : (m : Meaning) (s : State) (x : Constraint) → OnOpen s.rows s.basis → m.admitted x.a x.b x.c ≡ true → Good m s → Good m (entered x s)
good_entered m s x f e g = record {
  admitted = subst (Admitted m) (sym (map_push (λ row. row.constraint) s.rows (open_row x)))
      (All-push (λ y. m.admitted y.a y.b y.c ≡ true) (map (λ row. row.constraint) s.rows) x g.admitted e);
  stands = subst (Stands m) (sym (picked_entered s.rows (open_row x) s.basis f)) g.stands;
}

pub occurs_push : (k : ℕ) (xs : List ℕ) (x : ℕ) → (occurs k xs ≡ true) ⊎ (x ≡ k) → occurs k (xs ++ (x ∷ [])) ≡ true
occurs_push k [] x (inl e) = cc
occurs_push k [] x (inr e) = or_left (eqb x k) false (eq-eqb x k e)
occurs_push k (y ∷ ys) x (inl e) = ⊎_elim (λ a. or_left (eqb y k) (occurs k (ys ++ (x ∷ []))) a) (λ b. or_right (eqb y k) (occurs k (ys ++ (x ∷ []))) (occurs_push k ys x (inl b))) (or_cases (eqb y k) (occurs k ys) e)
occurs_push k (y ∷ ys) x (inr e) = or_right (eqb y k) (occurs k (ys ++ (x ∷ []))) (occurs_push k ys x (inr e))

-- one more place in the order, which holds its own number
module _ (order : List ℕ) (u : ℕ) (l : u < length order) where
  pub below_entered : AllBelow order u → AllBelow (set order u u) (u + 1)
  below_entered b i h = ⊎_elim
      (λ e. let s : get_or (set order u u) i 0 ≡ u = ap (λ (k : ℕ). get_or (set order u u) k 0) e ∙ get_or-set_same order u u 0 l in omega (arith, s))
      (λ n. let s : get_or (set order u u) i 0 ≡ get_or order i 0 = get_or-set_other order u i u 0 n in omega (arith, s, b i (omega arith)))
      (cases_eq i u)

  pub covers_entered : Covers order u → Covers (set order u u) (u + 1)
  covers_entered c k h = subst (λ xs. occurs k xs ≡ true) (sym (take_more_set order u u l))
      (occurs_push k (take u order) u (⊎_elim (λ e. inr (sym e)) (λ n. inl (c k (omega arith))) (cases_eq k u)))

-- ---- strike and restore

take_set_both : {X : Type 0} (n : ℕ) (xs : List X) (i : ℕ) (x : X) → take n (set xs i x) ≡ set (take n xs) i x
take_set_both zero xs i x = refl
take_set_both (suc n) [] i x = refl
take_set_both (suc n) (y ∷ ys) zero x = refl
take_set_both (suc n) (y ∷ ys) (suc i) x = ap (λ zs. y ∷ zs) (take_set_both n ys i x)

-- the rows in use after the table has another mark at position p
pub rows_marked : (mark : Mark) (p : ℤ) (table after : List Row) (u : ℕ) → nat_abs p < length (take u table)
    → after ≡ set table (nat_abs p) (marked mark (get_or table (nat_abs p) no_row)) → take u after ≡ with_mark mark p (take u table)
rows_marked mark p table after u l e =
    let i : nat_abs p < u = omega (arith, length-take u table) in
    ap (take u) e ∙ take_set_both u table (nat_abs p) (marked mark (get_or table (nat_abs p) no_row))
    ∙ ap (λ r. set (take u table) (nat_abs p) (marked mark r)) (sym (get_or-take u table (nat_abs p) no_row i))

module _ (mark : Mark) (p : ℤ) (rows : List Row) where
  open_marked : (q : ℤ) → has_open rows q ≡ true → (nat_abs q ≡ nat_abs p → mark ≡ Open) → has_open (with_mark mark p rows) q ≡ true
  open_marked q e f =
      let h = opens rows q e in
      opened (with_mark mark p rows) q (h.0.0, omega (arith, marked_length mark p rows, h.0.1)) (⊎_elim
      (λ s. ap (λ (k : ℕ). (get_or (with_mark mark p rows) k no_row).mark) s ∙ ap (λ r. r.mark) (marked_there mark p rows (omega (arith, h.0.1))) ∙ f s)
      (λ n. ap (λ r. r.mark) (marked_elsewhere mark p rows q n) ∙ h.1)
      (cases_eq (nat_abs q) (nat_abs p)))

pub filed_restored : (p : ℤ) (rows : List Row) (ps : List ℤ) → OnOpen rows ps → OnOpen (with_mark Open p rows) ps
filed_restored p rows ps f k l = open_marked Open p rows (get_or ps k (pos 0)) (f k l) (λ _. refl)

same_or_not : (a b : ℤ) → (a ≡ b) ⊎ (a ≡ b → ⊥)
same_or_not a b = by_lt_z a b (λ l. inr (λ e. omega (arith, ints))) (λ g. by_lt_z b a (λ l. inr (λ e. omega (arith, ints))) (λ h. inl (omega (arith, ints))))

in_or_not : (p : ℤ) (ps : List ℤ) → In p ps ⊎ (In p ps → ⊥)
in_or_not p [] = inr (λ i. i)
in_or_not p (q ∷ qs) = ⊎_elim (λ e. inl (inl e)) (λ n. ⊎_elim (λ i. inl (inr i)) (λ j. inr (λ k. elim k [ inl e ↦ n e | inr i ↦ j i ])) (in_or_not p qs)) (same_or_not p q)

-- two positions that have rows and the same place are one
same_place : (p q : ℤ) → pos 0 ≤ℤ p → pos 0 ≤ℤ q → nat_abs q ≡ nat_abs p → q ≡ p
same_place p q h i e = omega (arith, ints)

pub filed_struck : (p : ℤ) (rows : List Row) (ps after : List ℤ) → HasRow rows p → OnOpen rows ps → Emptied p ps after → OnOpen (with_mark Struck p rows) after
filed_struck p rows ps after h f e = ⊎_elim
    (λ i. subst (OnOpen (with_mark Struck p rows)) (sym (e.0 i)) (λ k l. absurd (omega arith)))
    (λ n. subst (OnOpen (with_mark Struck p rows)) (sym (e.1 n)) (λ k l. open_marked Struck p rows (get_or ps k (pos 0)) (f k l)
    (λ s. absurd (n (subst (λ (q : ℤ). In q ps) (same_place p (get_or ps k (pos 0)) h.0 (opens rows (get_or ps k (pos 0)) (f k l)).0.0 s) (in_at ps k (pos 0) l))))))
    (in_or_not p ps)

-- ---- both, by the mark

pub marks_row : (mark : Mark) (s : State) (p : ℤ) → MarkAnswer mark s p (Ok tt) → HasRow s.rows p
marks_row Struck s p a = a.0
marks_row Open s p a = a.0

pub filed_marked : (mark : Mark) (p : ℤ) (rows : List Row) (ps after : List ℤ) → HasRow rows p → OnOpen rows ps → BasisAfter mark p ps after → OnOpen (with_mark mark p rows) after
filed_marked Struck p rows ps after h f e = filed_struck p rows ps after h f e
filed_marked Open p rows ps after h f e = subst (OnOpen (with_mark Open p rows)) (sym e) (filed_restored p rows ps f)

pub marked_at : (mark : Mark) (p : ℤ) (s t : State) → t.rows ≡ with_mark mark p s.rows → t.order ≡ s.order → BasisAfter mark p s.basis t.basis → MarkedAt mark p s t
marked_at Struck p s t r o b = record { rows = r; order = o; basis = b }
marked_at Open p s t r o b = same_state r o b

-- ---- the filed rows stay admitted, and the filed basis stands

pub good_restored : (m : Meaning) (p : ℤ) (s : State) → Good m s → Good m (restored p s)
good_restored m p s g = record {
  admitted = subst (Admitted m) (sym (marked_constraints Open p s.rows)) g.admitted;
  stands = subst (Stands m) (sym (marked_picked Open p s.rows s.basis)) g.stands;
}

pub good_struck : (m : Meaning) (p : ℤ) (s t : State) → StruckAt p s t → Good m s → Good m t
good_struck m p s t a g = record {
  admitted = subst (λ rows. Admitted m (map (λ row. row.constraint) rows)) (sym a.rows) (subst (Admitted m) (sym (marked_constraints Struck p s.rows)) g.admitted);
  stands = subst (λ rows. Stands m (picked rows t.basis)) (sym a.rows) (subst (Stands m) (sym (marked_picked Struck p s.rows t.basis)) (⊎_elim
      (λ i. subst (λ ps. Stands m (picked s.rows ps)) (sym (a.basis.0 i)) (stands_by m [] tt))
      (λ n. subst (λ ps. Stands m (picked s.rows ps)) (sym (a.basis.1 n)) g.stands)
      (in_or_not p s.basis)));
}

-- so they do after a call, accepted or refused
pub good_strike : (m : Meaning) (p : ℤ) (s t : State) (r : Result (Unit {0}) Refusal) → Became r s (StruckAt p s) t → Good m s → Good m t
good_strike m p s t (Ok u) a g = good_struck m p s t a g
good_strike m p s t (Err e) a g = subst (Good m) (sym a) g

pub good_restore : (m : Meaning) (p : ℤ) (s t : State) (r : Result (Unit {0}) Refusal) → Became r s (λ u. u ≡ restored p s) t → Good m s → Good m t
good_restore m p s t (Ok u) a g = subst (Good m) (sym a) (good_restored m p s g)
good_restore m p s t (Err e) a g = subst (Good m) (sym a) g
