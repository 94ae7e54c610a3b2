-- What an exchange tells about rows that are all filed and admitted.
use Rattle.std.proofs.Common.{List, ◌∷◌, map, ℤ, Ok, Err, Result, inl, inr}
use Rattle.rows.specs.Row.{Named, picked}
use Rattle.rows.specs.declared.row.Row.{Row}
use Rattle.rows.specs.declared.refusal.Refusal.{Refusal}
use Rattle.lptype.specs.Meaning.{Meaning, Admitted, Stands}
use Rattle.lptype.specs.Questions.{Exchanged, ExchangeAnswer}
use Rattle.checking.proofs.Admitting.{admitted_picked}

module _ (m : Meaning) (rows : List Row) (a : Admitted m (map (λ row. row.constraint) rows)) (ps : List ℤ) (h : ℤ) (n : Named rows (h ∷ ps)) (s : Stands m (picked rows ps)) where
  -- an exchange is not refused
  pub exchanged_by : (after : List ℤ) (r : Result (Unit {0}) Refusal) → ExchangeAnswer m rows ps h after r → Exchanged m rows ps h after
  exchanged_by after (Ok u) x = x.0.1.1.1
  exchanged_by after (Err e) (inl q, _) = absurd (q.1 n)
  exchanged_by after (Err e) (inr (_, inl q), _) = absurd (q.1 (admitted_picked m rows a (h ∷ ps) n))
  exchanged_by after (Err e) (inr (_, inr (_, inl q)), _) = absurd (q.1 s)
  exchanged_by after (Err e) (inr (_, inr (_, inr (_, q))), _) = absurd q
