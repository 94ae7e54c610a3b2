use Rattle.std.proofs.Common.{◌≡◌, ◌++◌, length, drop}
use Rattle.rows.specs.List.{positions}
use Rattle.rows.specs.Numbers.{numbers_in}
use Rattle.rows.specs.Pool.{inserted}
use Rattle.rows.proofs.positions.Positions.with.Given as goal

abbrev pub invariant-loop-p : goal.invariant-loop-p
invariant-loop-p l = (numbers_in l.list ++ inserted l.next (drop l.p-index (positions l.self)) ≡ inserted l.h (positions l.self))
    × (length (numbers_in l.list) ≡ l.p-index)
