use Rattle.std.proofs.Common.{subst}
use Rattle.plane.specs.Answer.{Tells}
use Rattle.plane.proofs.Answering.{best_answer}
use Rattle.plane.proofs.problem.questions.PlaneProblem.best.Goals as goal

pub returns : goal.returns
returns c = best_answer c.args.self.now.p c.args.self.now.q c.args.list.now c.requires.admitted c.cheapest.result (subst (λ v. Tells v c.cheapest.result) c.search.ensures c.cheapest.ensures)
