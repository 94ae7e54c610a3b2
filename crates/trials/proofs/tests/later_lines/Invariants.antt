use Rattle.register.specs.Calls.{state_of}
use Rattle.register.specs.State.{Good}
use Rattle.trials.proofs.tests.later_lines.Given as goal

abbrev pub invariant-loop-number : goal.invariant-loop-number
invariant-loop-number g l = Good (g.P.Problem.meaning l.register.problem) (state_of l.register)
