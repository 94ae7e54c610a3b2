use Rattle.std.proofs.Common.{ℕ, ◌<◌}
use Rattle.rows.specs.Pool.{pooled}
use Rattle.lptype.specs.Search.{Serves}
use Rattle.lptype.proofs.problem.Problem.basis_of.Given as goal

abbrev pub invariant-loop-mask : goal.invariant-loop-mask
invariant-loop-mask g l = (k : ℕ) → k < l.mask → Serves (g.Self.Problem.meaning l.self) l.rows (pooled l.pool) k → ⊥
