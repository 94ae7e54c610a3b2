use Rattle.register.specs.Calls.{state_of}
use Rattle.register.specs.State.{Good}
use Rattle.basis.proofs.run.Given as goal

abbrev pub invariant-loop-number : goal.invariant-loop-number
invariant-loop-number g l = Good (g.P.Problem.meaning l.register.problem) (state_of l.register)
