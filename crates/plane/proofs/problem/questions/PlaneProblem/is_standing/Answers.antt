use Rattle.std.proofs.lemmas.Bool.Decides.{Decides-at}
use Rattle.limits.specs.Plane.{cost_x_y}
use Rattle.limits.specs.Standing.{standing}
use Rattle.limits.proofs.Deciding.{standing_decides}
use Rattle.limits.proofs.Lawful.{cost_x_y_separates}
use Rattle.plane.proofs.problem.questions.PlaneProblem.is_standing.Goals as goal

pub returns : goal.returns
returns c =
    let p = c.args.self.now.p in
    let q = c.args.self.now.q in
    let F = c.args.list.now in
    Decides-at c.all_missed.result (standing (cost_x_y p q) F) c.all_missed.ensures (standing_decides (cost_x_y p q) (cost_x_y_separates p q) F c.requires)
