use Rattle.std.proofs.Common.{Ok, Err, sym, refl, subst}
use Rattle.register.specs.State.{Good}
use Rattle.register.specs.Days.{enters}
use Rattle.register.specs.Calls.{state_of}
use Rattle.register.proofs.Filing.{good_entered}
use Rattle.register.proofs.Keeping.{extends}
use Rattle.register.proofs.working.Working.enter.Goals as goal

pub returns-in_err-judge_entry-clause-day : goal.returns-in_err-judge_entry-clause-day
returns-in_err-judge_entry-clause-day g c = extends (g.P.Problem.meaning c.args.self.now.problem) (enters c.args.row (Err c.in_err-judge_entry.field-0.0) c.in_err-judge_entry.ensures refl)

pub returns-clause-good : goal.returns-clause-good
returns-clause-good g c =
    let w = c.args.self.now in
    let m = g.P.Problem.meaning w.problem in
    subst (Good m) (sym c.file.ensures) (good_entered m (state_of w) c.args.row w.contents.filed c.in_ok-judge_entry.ensures.0 c.requires)

pub returns-clause-day : goal.returns-clause-day
returns-clause-day g c = extends (g.P.Problem.meaning c.args.self.now.problem) (enters c.args.row (Ok tt) c.in_ok-judge_entry.ensures c.file.ensures)
