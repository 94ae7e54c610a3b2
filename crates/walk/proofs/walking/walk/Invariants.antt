use Rattle.std.proofs.Common.{◌-◌, length}
use Rattle.rows.specs.List.{positions}
use Rattle.walk.proofs.Walks.{left, Leaves}
use Rattle.walk.proofs.walking.walk.Given as goal

abbrev pub invariant-loop-left : goal.invariant-loop-left
invariant-loop-left g l = Leaves (g.P.Problem.meaning l.problem) l.rows l.order (positions l.initial.basis) l.left (positions l.basis) l.counts.tests l.counts.exchanges

abbrev pub decreases-loop-left : goal.decreases-loop-left
decreases-loop-left g l = left (g.P.Problem.meaning l.problem) l.rows l.order (length l.order - length l.left) (positions l.basis)
