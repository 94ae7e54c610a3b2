use Rattle.std.proofs.Common.{ap, ◌∙◌}
use Rattle.std.proofs.lemmas.Bool.Decides.{Decides-at}
use Rattle.bounds.specs.Sides.{box_around, misses}
use Rattle.bounds.proofs.Around.{raises_missed}
use Rattle.bounds.proofs.problem.BoundsProblem.is_raised.Goals as goal

pub returns : goal.returns
returns c =
    let F = c.args.list.now in
    Decides-at c.misses.result (misses (box_around F) c.args.row) (c.misses.ensures ∙ ap (λ k. misses k c.args.row) c.around.ensures) (raises_missed F c.args.row)
