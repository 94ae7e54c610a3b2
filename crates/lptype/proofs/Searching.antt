-- The search for a basis: where a row violates a list that stands, some mask serves, and what serves is an exchange.
use Rattle.std.proofs.Common.{◌≡◌, ℕ, ◌^◌, ◌<◌, ◌≤◌, true, false, List, ◌∷◌, length, ℤ, Some, None, Ok, Option, sym, refl, ap, ◌∙◌, subst, inl, inr, ⊎_elim, arith}
use Rattle.std.specs.Option.{unwrap_or}
use Rattle.std.proofs.lemmas.List.{length-map}
use Rattle.std.proofs.lemmas.Bool.{false≢true}
use Rattle.rows.specs.List.{positions}
use Rattle.rows.specs.Pool.{inserted, chosen, Listable}
use Rattle.rows.specs.Rising.{Rising}
use Rattle.rows.specs.Row.{at, picked}
use Rattle.rows.specs.declared.positions.Positions.{Positions}
use Rattle.rows.specs.declared.row.Row.{Row}
use Rattle.rows.proofs.Choosing.{chosen_part, reached}
use Rattle.rows.proofs.Inserting.{rising_inserted}
use Rattle.rows.proofs.Rise.{rising_sublist, positions_few, positions_rise}
use Rattle.lptype.specs.Meaning.{Meaning, In, Within, Raises, Quiet, SameValue, Stands}
use Rattle.lptype.specs.Laws.{Laws}
use Rattle.lptype.specs.Places.{AllFine}
use Rattle.lptype.specs.Questions.{Exchanged, ViolatesAnswer}
use Rattle.lptype.specs.Search.{QuietAt, Qualifies, Serves, FirstServing, BasisAnswer}
use Rattle.lptype.proofs.Derived.{whole}
use Rattle.lptype.proofs.Inside.{all_in, all_from_in, in_unmap, within_map, within_inserted, inserted_within, sublist_within}
use Rattle.lptype.proofs.Naming.{fine_within}
use Rattle.lptype.proofs.Order.{down, not_both, equal_trans, le_or_less}
use Rattle.lptype.proofs.Standing.{standing_sublist, short}

serves_at : (m : Meaning) (rows : List Row) (pool : List ℤ) (k : ℕ) (ys : List ℤ) → chosen pool k ≡ ys → Listable ys → Qualifies m rows ys pool → Serves m rows pool k
serves_at m rows pool k ys e f q = record {
  listable = subst Listable (sym e) f;
  qualifies = subst (λ l. Qualifies m rows l pool) (sym e) q;
}

module _ (m : Meaning) (l : Laws m) (rows : List Row) where
  -- a list that stands and has the value of the pool qualifies
  qualified : (ys pool : List ℤ) → Within ys pool → AllFine m rows pool → Stands m (picked rows ys) → SameValue m (picked rows ys) (picked rows pool) → Qualifies m rows ys pool
  qualified ys pool w a s e = (
    (fine_within m rows ys pool w a, s),
    all_from_in (QuietAt m rows ys) pool (λ p i.
        let v : Within (p ∷ ys) pool = λ x. elim [ inl k ↦ subst (λ y. In y pool) (sym k) i | inr k ↦ w x k ] in
        let b = fine_within m rows (p ∷ ys) pool v a in
        record {
          fine = b;
          stands = s;
          quiet = l.order.transitive (m.value (picked rows (p ∷ ys))) (m.value (picked rows pool)) (m.value (picked rows ys))
              (l.monotone (picked rows (p ∷ ys)) (picked rows pool) b.1 a.1 (within_map (at rows) (p ∷ ys) pool v))
              (down m l.order (m.value (picked rows ys)) (m.value (picked rows pool)) e);
        }),
  )

  -- and conversely
  same_by : (ys pool : List ℤ) → Within ys pool → AllFine m rows pool → Qualifies m rows ys pool → SameValue m (picked rows ys) (picked rows pool)
  same_by ys pool w a q = whole m l (picked rows ys) (picked rows pool) a.1 (within_map (at rows) ys pool w) (λ x i.
      let r = in_unmap (at rows) pool x i in
      subst (Quiet m (picked rows ys)) (sym r.2) (all_in (QuietAt m rows ys) pool r.0 q.1 r.1).quiet)

  module _ (ps : List ℤ) (h : ℤ) (fine : AllFine m rows (h ∷ ps)) where
    pool_fine : AllFine m rows (inserted h ps)
    pool_fine = fine_within m rows (inserted h ps) (h ∷ ps) (inserted_within h ps) fine

    -- a position that violates the list is not in it
    new : Raises m (picked rows ps) (at rows h) → ¬ In h ps
    new p i =
        let w : Within (h ∷ ps) ps = λ x. elim [ inl k ↦ subst (λ y. In y ps) (sym k) i | inr k ↦ k ] in
        not_both m (m.value (picked rows ps)) (m.value (picked rows (h ∷ ps))) p
        (l.monotone (picked rows (h ∷ ps)) (picked rows ps) fine.1 fine.1.1 (within_map (at rows) (h ∷ ps) ps w))

    pub some_serves : Rising ps (length ps) → Raises m (picked rows ps) (at rows h) → (k : ℕ) × (k < 2 ^ length (inserted h ps)) × Serves m rows (inserted h ps) k
    some_serves r p =
        let pool = inserted h ps in
        let b = standing_sublist m l (at rows) pool pool_fine.1 in
        let ys = b.0 in
        let w = sublist_within b.1 in
        let s = short m l (picked rows ys) (fine_within m rows ys pool w pool_fine).1 b.2 in
        let few : length ys ≤ 8 = omega (arith, s, length-map ys (at rows), l.dimension_small) in
        let rises = rising_inserted h ps r (all_from_in (λ x. x ≡ h → ⊥) ps (λ x i e. new p (subst (λ y. In y ps) e i))) in
        let k = reached b.1 in
        (k.0, k.1, serves_at m rows pool k.0 ys k.2 (few, rising_sublist b.1 rises) (qualified ys pool w pool_fine b.2 b.3))

    -- what serves is an exchange
    pub exchanged : (k : ℕ) → Raises m (picked rows ps) (at rows h) → Serves m rows (inserted h ps) k → Exchanged m rows ps h (chosen (inserted h ps) k)
    exchanged k p s =
        let pool = inserted h ps in
        let ys = chosen pool k in
        let w = sublist_within (chosen_part pool k) in
        record {
          list = s.listable;
          from = λ x i. inserted_within h ps x (w x i);
          stands = s.qualifies.0.1;
          same = equal_trans m l.order (m.value (picked rows ys)) (m.value (picked rows pool)) (m.value (picked rows (h ∷ ps)))
              (same_by ys pool w pool_fine s.qualifies)
              (l.rows_only (picked rows pool) (picked rows (h ∷ ps)) pool_fine.1 fine.1
              (within_map (at rows) pool (h ∷ ps) (inserted_within h ps))
              (within_map (at rows) (h ∷ ps) pool (within_inserted h ps)));
          stays = λ q. absurd (not_both m (m.value (picked rows ps)) (m.value (picked rows (h ∷ ps))) p q);
        }

-- the answer, from what violates and the search answered
module _ (m : Meaning) (l : Laws m) (rows : List Row) (ps : List ℤ) (h : ℤ) where
  pub answer_found : (p : Positions) (pool : List ℤ) (k : ℕ) → ViolatesAnswer m rows ps h (Ok true) → pool ≡ inserted h ps → Serves m rows pool k → positions p ≡ chosen pool k → BasisAnswer m rows ps h (Ok p)
  answer_found p pool k v e s f =
      let x = exchanged m l rows ps h (v.0, v.1.0) k (v.1.1.1.0 refl) (subst (λ q. Serves m rows q k) e s) in
      (v.0, (v.1.0, (v.1.1.0, subst (Exchanged m rows ps h) (sym (f ∙ ap (λ q. chosen q k) e)) x)))

  pub answer_none : (pool : List ℤ) → Rising ps (length ps) → ViolatesAnswer m rows ps h (Ok true) → pool ≡ inserted h ps → ((k : ℕ) → k < 2 ^ length pool → Serves m rows pool k → ⊥) → ⊥
  answer_none pool r v e n =
      let s = some_serves m l rows ps h (v.0, v.1.0) r (v.1.1.1.0 refl) in
      subst (λ q. (k : ℕ) → k < 2 ^ length q → Serves m rows q k → ⊥) e n s.0 s.1 s.2

  -- what the search gives, or else the list itself: the search gives something
  pub answer_searched : (p : Positions) (pool : List ℤ) (r : Option Positions) → Rising ps (length ps) → ViolatesAnswer m rows ps h (Ok true) → pool ≡ inserted h ps → FirstServing m rows pool r → BasisAnswer m rows ps h (Ok (unwrap_or r p))
  answer_searched p pool (Some q) r v e s = answer_found q pool s.0 v e s.1 s.2
  answer_searched p pool None r v e s = absurd (answer_none pool r v e s)

-- a list that h does not violate stays
pub answer_kept : (m : Meaning) (l : Laws m) (rows : List Row) (p : Positions) (h : ℤ) → ViolatesAnswer m rows (positions p) h (Ok false) → BasisAnswer m rows (positions p) h (Ok p)
answer_kept m l rows p h v =
    let F = picked rows (positions p) in
    let G = picked rows (h ∷ positions p) in
    let q : Quiet m F (at rows h) = ⊎_elim (λ q. q) (λ r. absurd (false≢true (v.1.1.1.1 r))) (le_or_less m (m.value G) (m.value F)) in (
      v.0,
      (
        v.1.0,
        (
          v.1.1.0,
          record {
            list = (positions_few p, positions_rise p);
            from = λ x i. inr i;
            stands = v.1.1.0;
            same = l.order.antisymmetric (m.value F) (m.value G) (l.monotone F G v.1.0.1 v.1.0 (λ x i. inr i)) q;
            stays = λ _. refl;
          },
        ),
      ),
    )
