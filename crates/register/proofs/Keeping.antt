-- What every phase of a day keeps: admitted rows, a basis on open rows that stands, and an order of all rows.
use Rattle.std.proofs.Common.{◌≡◌, ℕ, ◌+◌, ◌<◌, ◌≤◌, true, List, [], ◌∷◌, ◌++◌, length, get_or, ℤ, sym, refl, ap, ◌∙◌, subst, inl, inr, ⊎_elim, arith}
use Rattle.std.proofs.lemmas.List.{length_push, get_or_push, get_or_append_left, take_all}
use Rattle.std.proofs.lemmas.Bool.{cases_eq}
use Rattle.rows.specs.Row.{HasRow, open_row}
use Rattle.rows.specs.declared.row.Constraint.{Constraint}
use Rattle.rows.specs.declared.row.Mark.TheVariants.{Open, Struck}
use Rattle.lptype.specs.Meaning.{Meaning}
use Rattle.lptype.proofs.Standing.{stands_by}
use Rattle.checking.specs.Filed.{OnOpen, AllBelow, occurs, Covers}
use Rattle.walk.specs.Walks.{WalkReady}
use Rattle.std.specs.List.{AllByRecursion}
use Rattle.walk.proofs.Walks.{front_below}
use Rattle.register.specs.State.{State, new_state, Good, entered, StruckAt, restored}
use Rattle.register.specs.Days.{Call, Phase, Makes, goes_on, Extends}
use Rattle.register.proofs.Marking.{marked_length}
use Rattle.register.proofs.Filing.{filed_entered, good_entered, occurs_push, filed_struck, good_struck, filed_restored, good_restored}

pub record Kept (m : Meaning) (s : State) : Type 0 where
  pub good : Good m s
  pub few : length s.rows ≤ 256
  pub filed : OnOpen s.rows s.basis
  pub sized : length s.order ≡ length s.rows
  pub below : AllBelow s.order (length s.rows)
  pub covers : Covers s.order (length s.rows)

pub kept_new : (m : Meaning) → Kept m new_state
kept_new m = record {
  good = record { admitted = tt; stands = stands_by m [] tt };
  few = omega arith;
  filed = λ k l. absurd (omega arith);
  sized = refl;
  below = λ i l. absurd (omega arith);
  covers = λ k l. absurd (omega arith);
}

-- one more at the end of the order, which is its own number
module _ (order : List ℕ) (n : ℕ) (e : length order ≡ n) where
  below_push : AllBelow order n → AllBelow (order ++ (n ∷ [])) (n + 1)
  below_push b i l = ⊎_elim
      (λ s. let g : get_or (order ++ (n ∷ [])) i 0 ≡ n = get_or_push order n 0 i (e ∙ sym s) in omega (arith, g))
      (λ d. let g : get_or (order ++ (n ∷ [])) i 0 ≡ get_or order i 0 = get_or_append_left order (n ∷ []) 0 i (omega (arith, e)) in omega (arith, g, b i (omega arith)))
      (cases_eq i n)

  covers_push : Covers order n → Covers (order ++ (n ∷ [])) (n + 1)
  covers_push c k l = subst (λ xs. occurs k xs ≡ true) (sym (take_all (n + 1) (order ++ (n ∷ [])) (omega (arith, length_push order n, e))))
      (occurs_push k order n (⊎_elim (λ s. inr (sym s)) (λ d. inl (subst (λ xs. occurs k xs ≡ true) (take_all n order (omega (arith, e))) (c k (omega arith)))) (cases_eq k n)))

pub kept_entered : (m : Meaning) (s : State) (x : Constraint) → m.admitted x.a x.b x.c ≡ true → length s.rows < 256 → Kept m s → Kept m (entered x s)
kept_entered m s x a l k =
    let n : length (s.rows ++ (open_row x ∷ [])) ≡ length s.rows + 1 = length_push s.rows (open_row x) in
    record {
      good = good_entered m s x k.filed a k.good;
      few = omega (arith, n);
      filed = filed_entered s.rows (open_row x) s.basis k.filed;
      sized = omega (arith, n, length_push s.order (length s.rows), k.sized);
      below = subst (AllBelow (s.order ++ (length s.rows ∷ []))) (sym n) (below_push s.order (length s.rows) k.sized k.below);
      covers = subst (Covers (s.order ++ (length s.rows ∷ []))) (sym n) (covers_push s.order (length s.rows) k.sized k.covers);
    }

pub kept_struck : (m : Meaning) (p : ℤ) (s t : State) → HasRow s.rows p → StruckAt p s t → Kept m s → Kept m t
kept_struck m p s t h a k =
    let n : length t.rows ≡ length s.rows = ap length a.rows ∙ marked_length Struck p s.rows in
    record {
      good = good_struck m p s t a k.good;
      few = omega (arith, n, k.few);
      filed = subst (λ rows. OnOpen rows t.basis) (sym a.rows) (filed_struck p s.rows s.basis t.basis h k.filed a.basis);
      sized = ap length a.order ∙ k.sized ∙ sym n;
      below = subst (AllBelow t.order) (sym n) (subst (λ xs. AllBelow xs (length s.rows)) (sym a.order) k.below);
      covers = subst (Covers t.order) (sym n) (subst (λ xs. Covers xs (length s.rows)) (sym a.order) k.covers);
    }

pub kept_restored : (m : Meaning) (p : ℤ) (s : State) → Kept m s → Kept m (restored p s)
kept_restored m p s k =
    let n : length (restored p s).rows ≡ length s.rows = marked_length Open p s.rows in
    record {
      good = good_restored m p s k.good;
      few = omega (arith, n, k.few);
      filed = filed_restored p s.rows s.basis k.filed;
      sized = k.sized ∙ sym n;
      below = subst (AllBelow s.order) (sym n) k.below;
      covers = subst (Covers s.order) (sym n) k.covers;
    }

-- what a walk asks for
pub ready : (m : Meaning) (s : State) → Kept m s → WalkReady m s.rows s.order s.basis
ready m s k = record {
  admitted = k.good.admitted;
  few = k.few;
  below = subst (AllByRecursion (λ i. i < length s.rows)) (take_all (length s.rows) s.order (omega (arith, k.sized))) (front_below s.order (length s.rows) k.below);
  filed = k.filed;
  stands = k.good.stands;
}

pub extends : (m : Meaning) {p q : Phase} {call : Call} → Makes m p call q → Extends m p call q
extends m k calls d = goes_on d k
