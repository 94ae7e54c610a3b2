-- A question about rows that are all filed and admitted is refused on no account but its own.
use Rattle.std.proofs.Common.{List, ◌∷◌, map, ℤ, Err, Option, inl, inr}
use Rattle.rows.specs.Row.{Named, picked}
use Rattle.rows.specs.declared.row.Row.{Row}
use Rattle.rows.specs.declared.refusal.Refusal.{Refusal}
use Rattle.lptype.specs.Meaning.{Meaning, Admitted, Stands}
use Rattle.lptype.specs.Questions.{StandsAnswer, ViolatesAnswer, AnswerAnswer}
use Rattle.checking.proofs.Admitting.{admitted_picked}

module _ (m : Meaning) (rows : List Row) (a : Admitted m (map (λ row. row.constraint) rows)) where
  pub stands_unrefused : (ps : List ℤ) → Named rows ps → (e : Refusal) → StandsAnswer m rows ps (Err e) → ⊥
  stands_unrefused ps n e (inl q) = q.1 n
  stands_unrefused ps n e (inr (_, inl q)) = q.1 (admitted_picked m rows a ps n)
  stands_unrefused ps n e (inr (_, inr (_, q))) = q

  pub violates_unrefused : (ps : List ℤ) (h : ℤ) → Named rows (h ∷ ps) → Stands m (picked rows ps) → (e : Refusal) → ViolatesAnswer m rows ps h (Err e) → ⊥
  violates_unrefused ps h n s e (inl q) = q.1 n
  violates_unrefused ps h n s e (inr (_, inl q)) = q.1 (admitted_picked m rows a (h ∷ ps) n)
  violates_unrefused ps h n s e (inr (_, inr (_, inl q))) = q.1 s
  violates_unrefused ps h n s e (inr (_, inr (_, inr (_, q)))) = q

  pub answer_unrefused : {A : Type 0} (reads : A → Option m.Rival → Type 0) (ps : List ℤ) → Named rows ps → Stands m (picked rows ps) → (e : Refusal) → AnswerAnswer m reads rows ps (Err e) → ⊥
  answer_unrefused reads ps n s e (inl q) = q.1 n
  answer_unrefused reads ps n s e (inr (_, inl q)) = q.1 (admitted_picked m rows a ps n)
  answer_unrefused reads ps n s e (inr (_, inr (_, inl q))) = q.1 s
  answer_unrefused reads ps n s e (inr (_, inr (_, inr (_, q)))) = q
