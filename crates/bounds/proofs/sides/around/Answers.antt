use Rattle.std.proofs.Common.{◌∙◌}
use Rattle.bounds.proofs.Around.{around_all}
use Rattle.bounds.proofs.sides.around.Goals as goal

pub returns : goal.returns
returns c = c.with_points.ensures ∙ around_all c.args.list.now
