use Rattle.std.proofs.Common.{[], sym, subst}
use Rattle.register.specs.State.{State}
use Rattle.register.specs.Days.{working, Day, begins}
use Rattle.register.proofs.Daily.{day_law}
use Rattle.register.proofs.working.Working.new.Goals as goal

pub returns-clause-day : goal.returns-clause-day
returns-clause-day g c = subst (λ (s : State). Day (g.P.Problem.meaning c.args.problem) [] (working s)) (sym c.blank.ensures) begins

pub returns-clause-law : goal.returns-clause-law
returns-clause-law g c = day_law (g.P.Problem.meaning c.args.problem) (g.met.P.Problem.lawful c.args.problem)
