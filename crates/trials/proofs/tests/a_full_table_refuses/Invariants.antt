use Rattle.bounds.specs.Bounds.{boxes}
use Rattle.register.specs.Calls.{state_of}
use Rattle.register.specs.State.{Good}
use Rattle.trials.proofs.tests.a_full_table_refuses.Given as goal

abbrev pub invariant-loop : goal.invariant-loop
invariant-loop g l = Good boxes (state_of l.register)
