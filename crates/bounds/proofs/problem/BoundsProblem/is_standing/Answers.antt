use Rattle.bounds.proofs.Around.{needed_decides}
use Rattle.bounds.proofs.problem.BoundsProblem.is_standing.Goals as goal

pub returns : goal.returns
returns c = needed_decides c.args.list.now c.all_needed.result c.all_needed.ensures
