use Rattle.rows.specs.List.{positions}
use Rattle.register.specs.Days.{checks}
use Rattle.register.proofs.Keeping.{extends}
use Rattle.register.proofs.settled.Settled.checked.Goals as goal

pub returns : goal.returns
returns g c = extends (g.P.Problem.meaning c.args.self.now.register.problem) (checks (positions c.args.list.now))
