use Rattle.std.proofs.Common.{◌≡◌, ◌++◌, length, drop}
use Rattle.rows.specs.List.{positions}
use Rattle.rows.specs.Row.{picked}
use Rattle.rows.proofs.row.picking.picked.Given as goal

abbrev pub invariant-loop-p : goal.invariant-loop-p
invariant-loop-p l = (l.constraints.items ++ picked l.rows (drop l.p-index (positions l.list)) ≡ picked l.rows (positions l.list))
    × (length l.constraints.items ≡ l.p-index)
