use Rattle.std.proofs.Common.{ap, ◌∙◌}
use Rattle.std.proofs.lemmas.Bool.Decides.{Decides-at}
use Rattle.limits.specs.Least.{least_crossing}
use Rattle.limits.specs.Plane.{cost_x_y}
use Rattle.limits.specs.Standing.{misses}
use Rattle.limits.proofs.Deciding.{violates_decides}
use Rattle.limits.proofs.Lawful.{cost_x_y_separates}
use Rattle.plane.proofs.problem.questions.PlaneProblem.is_raised.Goals as goal

pub returns : goal.returns
returns c =
    let p = c.args.self.now.p in
    let q = c.args.self.now.q in
    let F = c.args.list.now in
    Decides-at c.misses.result (misses (least_crossing (cost_x_y p q) F) c.args.row) (c.misses.ensures ∙ ap (λ v. misses v c.args.row) c.search.ensures) (violates_decides (cost_x_y p q) (cost_x_y_separates p q) F c.args.row)
