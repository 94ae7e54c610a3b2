-- What an exchange does: the value rises where the row violates, and the rows named stay admitted.
use Rattle.std.proofs.Common.{List, ◌∷◌, ℤ}
use Rattle.rows.specs.Row.{at, picked}
use Rattle.rows.specs.declared.row.Row.{Row}
use Rattle.lptype.specs.Meaning.{Meaning, Less, Raises}
use Rattle.lptype.specs.Laws.{Laws}
use Rattle.lptype.specs.Places.{AllFine}
use Rattle.lptype.specs.Questions.{Exchanged}
use Rattle.lptype.proofs.Naming.{fine_within}
use Rattle.lptype.proofs.Order.{down, less_le}

module _ (m : Meaning) (rows : List Row) (ps : List ℤ) (h : ℤ) (after : List ℤ) (x : Exchanged m rows ps h after) where
  pub exchange_rises : Laws m → Raises m (picked rows ps) (at rows h) → Less m.le (m.value (picked rows ps)) (m.value (picked rows after))
  exchange_rises l p =
      less_le m l.order (m.value (picked rows ps)) (m.value (picked rows (h ∷ ps))) (m.value (picked rows after)) p
      (down m l.order (m.value (picked rows after)) (m.value (picked rows (h ∷ ps))) x.same)

  pub exchange_fine : AllFine m rows (h ∷ ps) → AllFine m rows after
  exchange_fine a = fine_within m rows after (h ∷ ps) x.from a
