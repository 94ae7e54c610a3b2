use Rattle.std.proofs.Common.{sym, subst}
use Rattle.register.specs.Days.{working, reopening, reopens, Extends}
use Rattle.register.specs.Calls.{state_of, settled_phase}
use Rattle.register.proofs.Keeping.{extends}
use Rattle.register.proofs.settled.Settled.reopen.Goals as goal

pub returns : goal.returns
returns g c =
    let w = c.args.self in
    let m = g.P.Problem.meaning w.register.problem in
    let e = c.into_working.ensures in
    record { same = e; day = subst (λ r. Extends m (settled_phase w) reopening (working (state_of r))) (sym e) (extends m reopens) }
