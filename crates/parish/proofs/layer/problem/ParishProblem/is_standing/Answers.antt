use Rattle.std.proofs.Common.{rules}
use Rattle.parish.proofs.Asking.{inside_stands}
use Rattle.parish.proofs.layer.problem.ParishProblem.is_standing.Goals as goal

pub returns-then-counts_all : goal.returns-then-counts_all
returns-then-counts_all g c =
    let below = c.args.self.now.below in
    let s = inside_stands (g.P.Problem.meaning below) (g.met.P.Problem.lawful below) c.args.self.now.parish c.args.list.now in
    search rules

pub returns-else-counts_all : goal.returns-else-counts_all
returns-else-counts_all g c =
    let below = c.args.self.now.below in
    let s = inside_stands (g.P.Problem.meaning below) (g.met.P.Problem.lawful below) c.args.self.now.parish c.args.list.now in
    search rules
