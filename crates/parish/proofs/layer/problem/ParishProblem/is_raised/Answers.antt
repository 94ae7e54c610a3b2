use Rattle.std.proofs.Common.{rules}
use Rattle.parish.proofs.Asking.{inside_stands, inside_raises}
use Rattle.parish.proofs.layer.problem.ParishProblem.is_raised.Goals as goal

pub is_raised-requires-clause-stands : goal.is_raised-requires-clause-stands
is_raised-requires-clause-stands g c =
    let below = c.args.self.now.below in
    ((inside_stands (g.P.Problem.meaning below) (g.met.P.Problem.lawful below) c.args.self.now.parish c.args.list.now).1 c.requires.stands).1

pub returns-then-counts : goal.returns-then-counts
returns-then-counts g c =
    let below = c.args.self.now.below in
    let r = inside_raises (g.P.Problem.meaning below) (g.met.P.Problem.lawful below) c.args.self.now.parish c.args.list.now c.requires.stands c.args.row in
    search rules
