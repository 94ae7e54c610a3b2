-- The law of a whole day.
use Rattle.std.proofs.Common.{◌≡◌, ℕ, List, [], ◌∷◌, ◌++◌, map, length, take, ℤ, Some, None, Ok, Err, Result, sym, refl, ap, ◌∙◌, subst, append_assoc, arith}
use Rattle.std.specs.List.{range_with_len}
use Rattle.std.proofs.lemmas.List.{take_all, map_push}
use Rattle.std.proofs.lemmas.List.Sorted.{length_permutation}
use Rattle.std.proofs.lemmas.List.FromFn.{length-range_with_len}
use Rattle.rows.specs.Row.{picked}
use Rattle.rows.specs.declared.row.Constraint.{Constraint}
use Rattle.rows.specs.declared.refusal.Refusal.{Refusal}
use Rattle.lptype.specs.Meaning.{Meaning, Value, finite, top, Equal}
use Rattle.lptype.specs.Laws.{Laws}
use Rattle.lptype.proofs.Order.{up, equal_trans}
use Rattle.checking.specs.Checking.{BasisOfOpen, open_rows}
use Rattle.checking.proofs.Passing.{check_passes, admitted_open, quiet_in_open}
use Rattle.walk.specs.Walks.{WalkEnds}
use Rattle.walk.specs.Shuffling.{shuffled, Permutes}
use Rattle.walk.proofs.Walks.{walk_law, open_on}
use Rattle.walk.proofs.Shuffles.{shuffled_permutes, permuted_below, permuted_covers}
use Rattle.register.specs.State.{State, Became, EnterAnswer, entered, StrikeAnswer, StruckAt, RestoreAnswer, restored}
use Rattle.register.specs.Days.{Call, settling, checking, Phase, working, settled, state_in, with_order, with_basis, Makes, enters, strikes, restores, shuffles, settles, reopens, checks, Day, begins, goes_on}
use Rattle.register.specs.DayLaw.{SettledBy, CheckLaw, AnswerLaw, DayLaw}
use Rattle.register.proofs.Keeping.{Kept, kept_new, kept_entered, kept_struck, kept_restored, ready}

-- ---- the phases of a day

kept_shuffled : (m : Meaning) (s : State) (seed : ℕ) → Kept m s → Kept m (with_order (shuffled (length s.rows) seed) s)
kept_shuffled m s seed k =
    let n = length s.rows in
    let p = shuffled_permutes n seed in
    let l : length (shuffled n seed) ≡ n = length_permutation (range_with_len 0 n) (shuffled n seed) p ∙ length-range_with_len 0 n in
    let q : Permutes (take n (shuffled n seed)) n = subst (λ xs. Permutes xs n) (sym (take_all n (shuffled n seed) (omega (arith, l)))) p in
    record {
      good = record { admitted = k.good.admitted; stands = k.good.stands };
      few = k.few;
      filed = k.filed;
      sized = l;
      below = permuted_below (shuffled n seed) n q;
      covers = permuted_covers (shuffled n seed) n q;
    }

module _ (m : Meaning) (laws : Laws m) where
  kept_settled : (s : State) (ps : List ℤ) (t x : ℕ) → Kept m s → WalkEnds m s.rows s.order s.basis ps t x → Kept m (with_basis ps s)
  kept_settled s ps t x k w =
      let u = (walk_law m laws s.rows s.order s.basis (ready m s k)).underway (length s.order) t x ps w in
      record {
        good = record { admitted = k.good.admitted; stands = u.stands };
        few = k.few;
        filed = open_on s.rows ps u.named u.all_open;
        sized = k.sized;
        below = k.below;
        covers = k.covers;
      }

  enter_kept : (s t : State) (x : Constraint) (r : Result (Unit {0}) Refusal) → EnterAnswer m s x r → Became r s (λ u. u ≡ entered x s) t → Kept m s → Kept m t
  enter_kept s t x (Ok u) a b k = subst (Kept m) (sym b) (kept_entered m s x a.0 a.1.1.0 k)
  enter_kept s t x (Err e) a b k = subst (Kept m) (sym b) k

  strike_kept : (s t : State) (p : ℤ) (r : Result (Unit {0}) Refusal) → StrikeAnswer s p r → Became r s (StruckAt p s) t → Kept m s → Kept m t
  strike_kept s t p (Ok u) a b k = kept_struck m p s t a.0 b k
  strike_kept s t p (Err e) a b k = subst (Kept m) (sym b) k

  restore_kept : (s t : State) (p : ℤ) (r : Result (Unit {0}) Refusal) → RestoreAnswer s p r → Became r s (λ u. u ≡ restored p s) t → Kept m s → Kept m t
  restore_kept s t p (Ok u) a b k = subst (Kept m) (sym b) (kept_restored m p s k)
  restore_kept s t p (Err e) a b k = subst (Kept m) (sym b) k

  makes_kept : {p q : Phase} {call : Call} → Makes m p call q → Kept m (state_in p) → Kept m (state_in q)
  makes_kept (enters {s} {t} x r a b) k = enter_kept s t x r a b k
  makes_kept (strikes {s} {t} p r a b) k = strike_kept s t p r a b k
  makes_kept (restores {s} {t} p r a b) k = restore_kept s t p r a b k
  makes_kept (shuffles {s} seed) k = kept_shuffled m s seed k
  makes_kept (settles {s} {basis} {tests} {exchanges} w) k = kept_settled s basis tests exchanges k w
  makes_kept reopens k = k
  makes_kept (checks xs) k = k

  pub day_kept : {calls : List Call} {p : Phase} → Day m calls p → Kept m (state_in p)
  day_kept begins = kept_new m
  day_kept (goes_on d k) = makes_kept k (day_kept d)

  -- ---- the claims

  none_top : (v : Value m.Size) → Equal m.same top v → v ≡ top
  none_top top e = refl
  none_top (finite s) e = absurd e

  -- the answer at a basis of the open rows is the best for them
  pub best_of_open : (s : State) → Kept m s → BasisOfOpen m s.rows s.basis → AnswerLaw m s
  best_of_open s k b None e = λ q h. laws.rivals.none (open_rows s.rows) q (admitted_open m s.rows k.good.admitted)
      (none_top (m.value (open_rows s.rows)) (subst (λ v. Equal m.same v (m.value (open_rows s.rows))) e b.value)) h
  best_of_open s k b (Some r) e =
      let G = open_rows s.rows in
      let F = picked s.rows s.basis in
      let same = equal_trans m laws.order (finite (m.size r)) (m.value F) (m.value G) e.1 b.value in (
        (λ x i. laws.rivals.keeps_quiet F x r (quiet_in_open m laws s.rows k.good.admitted s.basis b x i).0 e.0 e.1 (quiet_in_open m laws s.rows k.good.admitted s.basis b x i).1),
        λ q h. laws.order.transitive (finite (m.size r)) (m.value G) (finite (m.size q)) (up m laws.order (finite (m.size r)) (m.value G) same)
            (laws.rivals.least G q (admitted_open m s.rows k.good.admitted) h),
      )

  -- how a settled phase came about
  settled_by : {calls : List Call} {s : State} {t x : ℕ} → Day m calls (settled s t x) → SettledBy m calls s t x
  settled_by (goes_on {calls} d (settles {s} w)) = record { before = calls; lists = []; start = s; came = refl; day = d; walk = w; same = refl }
  settled_by (goes_on d (checks xs)) =
      let b = settled_by d in
      record {
        before = b.before;
        lists = b.lists ++ (xs ∷ []);
        start = b.start;
        came = ap (λ cs. cs ++ (checking xs ∷ [])) b.came ∙ append_assoc b.before (settling ∷ map checking b.lists) (checking xs ∷ []) ∙ ap (λ cs. b.before ++ (settling ∷ cs)) (sym (map_push checking b.lists xs));
        day = b.day;
        walk = b.walk;
        same = b.same;
      }

  check_law : (s : State) → Kept m s → CheckLaw m s.rows
  check_law s k ps r a = check_passes m laws s.rows k.good.admitted ps r a

  -- a settled phase has the basis at the end of its walk
  settled_basis : {calls : List Call} {s : State} {t x : ℕ} → Day m calls (settled s t x) → BasisOfOpen m s.rows s.basis
  settled_basis {s = s} d =
      let b = settled_by d in
      let k = day_kept b.day in
      subst (λ (u : State). BasisOfOpen m u.rows u.basis) (sym b.same)
      ((walk_law m laws b.start.rows b.start.order b.start.basis (ready m b.start k)).ends _ _ s.basis k.covers b.walk)

  pub day_law : DayLaw m
  day_law calls (working s) d = check_law s (day_kept d)
  day_law calls (settled s t x) d = (check_law s (day_kept d), (best_of_open s (day_kept d) (settled_basis d), (settled_basis d, settled_by d)))
