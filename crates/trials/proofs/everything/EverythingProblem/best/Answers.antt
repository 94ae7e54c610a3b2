use Rattle.std.proofs.Common.{Some, refl}
use Rattle.trials.proofs.everything.EverythingProblem.best.Goals as goal

pub returns : goal.returns
returns c = (Some tt, refl, ((λ x i. tt), tt))
