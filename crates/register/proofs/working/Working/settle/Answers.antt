use Rattle.std.proofs.Common.{sym, subst}
use Rattle.register.specs.Days.{working, settled, settling, settles, Extends}
use Rattle.register.specs.Calls.{state_of}
use Rattle.register.proofs.Keeping.{extends}
use Rattle.register.proofs.working.Working.settle.Goals as goal

pub returns-clause-day : goal.returns-clause-day
returns-clause-day g c =
    let w = c.args.self in
    let m = g.P.Problem.meaning w.problem in
    let k = c.walk-counts.result in
    subst (λ s. Extends m (working (state_of w)) settling (settled s k.tests k.exchanges)) (sym c.walk-counts.ensures.state) (extends m (settles c.walk-counts.ensures.ends))
