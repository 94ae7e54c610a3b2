-- Lists that stand: by each row left out, no longer than the dimension, no row twice, and some in every list.
use Rattle.std.proofs.Common.{◌≡◌, ℕ, zero, suc, ◌<◌, ◌≤◌, false, List, [], ◌∷◌, ◌++◌, map, length, sym, subst, inl, inr, ⊎_elim, arith}
use Rattle.std.proofs.lemmas.List.{map-id}
use Rattle.std.proofs.lemmas.Bool.{cases_lt}
use Rattle.rows.specs.Sublist.{Sublist}
use Rattle.rows.proofs.Sublist.{sublist_self, sublist_trans}
use Rattle.rows.specs.declared.row.Constraint.{Constraint}
use Rattle.lptype.specs.Meaning.{Meaning, at_most, Le, Less, In, Within, Admitted, SameValue, Stands}
use Rattle.lptype.specs.Laws.{Laws}
use Rattle.lptype.proofs.Inside.{within_admitted, within_map, sublist_within, front_between, between_front}
use Rattle.lptype.proofs.Order.{down, not_both, equal_refl, equal_trans}
use Rattle.lptype.proofs.Outs.{EachOut, out_split, split_out, Lighter, lighter_or, each_out_map}
use Rattle.lptype.proofs.Spare.{spare}

-- a list stands if each list with one row left out has a smaller value, and conversely
pub stands_by : (m : Meaning) (B : List Constraint) → EachOut (λ l. Less m.le (m.value l) (m.value B)) B → Stands m B
stands_by m B q = record { without = out_split (λ l. Less m.le (m.value l) (m.value B)) B q }

pub stands_out : (m : Meaning) (B : List Constraint) → Stands m B → EachOut (λ l. Less m.le (m.value l) (m.value B)) B
stands_out m B s = split_out (λ l. Less m.le (m.value l) (m.value B)) B s.without

module _ (m : Meaning) (l : Laws m) where
  -- a list of which some rows within one left out have the value does not stand
  pub spare_row : (B xs ys : List Constraint) (x : Constraint) (F : List Constraint) → Admitted m B → B ≡ xs ++ (x ∷ ys) → Within F (xs ++ ys) → Le m.le (m.value B) (m.value F) → ¬ Stands m B
  spare_row B xs ys x F a e w v s =
      let c : Admitted m (xs ++ ys) = within_admitted m (xs ++ ys) (xs ++ (x ∷ ys)) (λ y i. front_between xs ys x y (inr i)) (subst (Admitted m) e a) in
      not_both m (m.value (xs ++ ys)) (m.value B) (s.without xs ys x e)
      (l.order.transitive (m.value B) (m.value F) (m.value (xs ++ ys)) v (l.monotone F (xs ++ ys) (within_admitted m F (xs ++ ys) w c) c w))

  -- a list that stands has no row twice
  pub once : (B xs ys : List Constraint) (x : Constraint) → Admitted m B → Stands m B → B ≡ xs ++ (x ∷ ys) → ¬ In x (xs ++ ys)
  once B xs ys x a s e i =
      spare_row B xs ys x B a e
      (λ y j. elim (between_front xs ys x y (subst (In y) e j)) [ inl k ↦ subst (λ z. In z (xs ++ ys)) (sym k) i | inr k ↦ k ])
      (l.order.reflexive (m.value B))
      s

  -- every list has a sublist that stands and has its value, also by way of positions
  pub standing_sublist : {X : Type 0} (f : X → Constraint) (xs : List X) → Admitted m (map f xs) → (ys : List X) × Sublist ys xs × Stands m (map f ys) × SameValue m (map f ys) (map f xs)
  standing_sublist {X} f xs = go (length xs) xs (omega arith)
    where
      Found : List X → Type 0
      Found L = (ys : List X) × Sublist ys L × Stands m (map f ys) × SameValue m (map f ys) (map f L)

      here : (L : List X) → EachOut (λ k. at_most m.le (m.value (map f L)) (m.value (map f k)) ≡ false) L → Found L
      here L q = (L, sublist_self L, stands_by m (map f L) (each_out_map f (λ k. Less m.le (m.value k) (m.value (map f L))) L q), equal_refl m l.order (m.value (map f L)))

      next : (L : List X) → Admitted m (map f L) → ((K : List X) → length K < length L → Admitted m (map f K) → Found K) → Lighter (λ k. at_most m.le (m.value (map f L)) (m.value (map f k))) L → Found L
      next L a rec s =
          let K = s.list in
          let w = within_map f K L (sublist_within s.part) in
          let c = within_admitted m (map f K) (map f L) w a in
          let r = rec K s.shorter c in (
            r.0,
            sublist_trans s.part r.1,
            r.2,
            equal_trans m l.order (m.value (map f r.0)) (m.value (map f K)) (m.value (map f L)) r.3
                (l.order.antisymmetric (m.value (map f K)) (m.value (map f L)) (l.monotone (map f K) (map f L) c a w) s.passes),
          )

      go : (n : ℕ) (L : List X) → length L ≤ n → Admitted m (map f L) → Found L
      go zero [] b a = here [] tt
      go zero (x ∷ L) b a = absurd (omega arith)
      go (suc n) L b a = ⊎_elim
          (next L a (λ K k. go n K (omega arith)))
          (here L)
          (lighter_or (λ k. at_most m.le (m.value (map f L)) (m.value (map f k))) L)

  -- a list that stands is no longer than the dimension
  pub too_long : (B : List Constraint) → Admitted m B → m.dimension < length B → ¬ Stands m B
  too_long B a n s =
      let f = l.few B a in
      let t = spare f.0 B (omega (arith, f.2, n)) f.1 in
      spare_row B t.before t.after t.row f.0 a t.split t.still (down m l.order (m.value f.0) (m.value B) f.3) s

  pub short : (B : List Constraint) → Admitted m B → Stands m B → length B ≤ m.dimension
  short B a s = ⊎_elim (λ n. absurd (too_long B a n s)) (λ n. n) (cases_lt m.dimension (length B))

  pub basis : (F : List Constraint) → Admitted m F → (B : List Constraint) × Within B F × (length B ≤ m.dimension) × Stands m B × SameValue m B F
  basis F a =
      let r = standing_sublist (λ x. x) F (subst (Admitted m) (sym (map-id F)) a) in
      let w = sublist_within r.1 in
      let s = subst (Stands m) (map-id r.0) r.2 in (
        r.0,
        w,
        short r.0 (within_admitted m r.0 F w a) s,
        s,
        subst (λ G. SameValue m r.0 G) (map-id F) (subst (λ B. SameValue m B (map (λ x. x) F)) (map-id r.0) r.3),
      )
