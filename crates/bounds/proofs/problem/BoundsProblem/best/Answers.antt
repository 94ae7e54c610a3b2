use Rattle.std.proofs.Common.{sym, subst}
use Rattle.lptype.specs.Questions.{ReadsBest}
use Rattle.bounds.specs.Bounds.{boxes}
use Rattle.bounds.specs.Sides.{Reads}
use Rattle.bounds.proofs.Around.{best_box}
use Rattle.bounds.proofs.problem.BoundsProblem.best.Goals as goal

pub returns : goal.returns
returns c = subst (ReadsBest boxes Reads c.args.list.now) (sym c.around.ensures) (best_box c.args.list.now)
