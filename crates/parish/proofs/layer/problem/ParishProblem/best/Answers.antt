use Rattle.parish.proofs.Asking.{inside_stands, inside_best}
use Rattle.parish.proofs.layer.problem.ParishProblem.best.Goals as goal

pub best-requires-clause-stands : goal.best-requires-clause-stands
best-requires-clause-stands g c =
    let below = c.args.self.now.below in
    ((inside_stands (g.P.Problem.meaning below) (g.met.P.Problem.lawful below) c.args.self.now.parish c.args.list.now).1 c.requires.stands).1

pub returns : goal.returns
returns g c =
    let below = c.args.self.now.below in
    inside_best (g.P.Problem.meaning below) (g.met.P.Problem.lawful below) c.args.self.now.parish c.args.list.now c.requires.stands (g.P.Problem.reads below) c.best.result c.best.ensures
