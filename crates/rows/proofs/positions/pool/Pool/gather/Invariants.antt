use Rattle.std.proofs.Common.{◌≡◌, ◌≤◌, ◌++◌, length, drop}
use Rattle.rows.specs.Numbers.{numbers_in}
use Rattle.rows.specs.Pool.{pooled, chosen}
use Rattle.rows.proofs.positions.pool.Pool.gather.Given as goal

abbrev pub invariant-loop-p : goal.invariant-loop-p
invariant-loop-p l = (numbers_in l.list ++ chosen (drop l.p-index (pooled l.self)) l.rest ≡ chosen (pooled l.self) l.mask)
    × (length (numbers_in l.list) ≤ l.p-index)
