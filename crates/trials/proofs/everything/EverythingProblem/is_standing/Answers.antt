use Rattle.std.proofs.Common.{rules}
use Rattle.trials.specs.Everythings.{decides_none}
use Rattle.trials.proofs.everything.EverythingProblem.is_standing.Goals as goal

pub returns : goal.returns
returns c = let d = decides_none c.args.list.now in search rules
