use Rattle.std.proofs.Common.{sym, subst}
use Rattle.register.specs.Days.{working, shuffling, shuffles, Extends}
use Rattle.register.specs.Calls.{state_of}
use Rattle.register.proofs.Keeping.{extends}
use Rattle.register.proofs.working.Working.shuffle.Goals as goal

pub returns-clause-day : goal.returns-clause-day
returns-clause-day g c =
    let w = c.args.self.now in
    let m = g.P.Problem.meaning w.problem in
    subst (λ s. Extends m (working (state_of w)) (shuffling c.args.seed) (working s)) (sym c.shuffle.ensures) (extends m (shuffles c.args.seed))
