-- Rows that are all admitted, by place and by position.
use Rattle.std.proofs.Common.{ℕ, ◌<◌, List, [], ◌∷◌, map, length, get_or, ℤ, nat_abs}
use Rattle.std.proofs.ByRecursion.{All-get_or}
use Rattle.rows.specs.Row.{Named, picked, no_row}
use Rattle.rows.specs.declared.row.Row.{Row}
use Rattle.lptype.specs.Meaning.{Meaning, Admitted}
use Rattle.lptype.specs.Places.{Fine}
use Rattle.lptype.proofs.Naming.{all_unmap}

module _ (m : Meaning) (rows : List Row) (a : Admitted m (map (λ row. row.constraint) rows)) where
  pub admitted_row : (i : ℕ) → i < length rows → Fine m (get_or rows i no_row).constraint
  admitted_row i l = All-get_or (λ row. Fine m row.constraint) rows i no_row l (all_unmap (Fine m) (λ row. row.constraint) rows a)

  pub admitted_picked : (ps : List ℤ) → Named rows ps → Admitted m (picked rows ps)
  admitted_picked [] n = tt
  admitted_picked (p ∷ ps) n = (admitted_row (nat_abs p) n.0.1, admitted_picked ps n.1)
