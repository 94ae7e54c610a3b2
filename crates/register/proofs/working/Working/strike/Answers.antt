use Rattle.std.proofs.Common.{ℤ, subst, w64}
use Rattle.std.proofs.lemmas.Int.{to_z-of_z}
use Rattle.register.specs.State.{Became, StrikeAnswer, StruckAt}
use Rattle.register.specs.Days.{strikes}
use Rattle.register.specs.Calls.{state_of}
use Rattle.register.specs.Contents.{contents_state}
use Rattle.register.proofs.Filing.{good_strike}
use Rattle.register.proofs.Keeping.{extends}
use Rattle.register.proofs.working.Working.strike.Goals as goal

pub returns-clause-good : goal.returns-clause-good
returns-clause-good g c =
    let w = c.args.self.now in
    let s = state_of w in
    let t = contents_state c.mark.new.self in
    let z = to_z-of_z w64 c.args.position c.ranges.position in
    let b = subst (λ (q : ℤ). Became c.mark.result s (StruckAt q s) t) z c.mark.ensures.after in
    good_strike (g.P.Problem.meaning w.problem) c.args.position s t c.mark.result b c.requires

pub returns-clause-day : goal.returns-clause-day
returns-clause-day g c =
    let w = c.args.self.now in
    let s = state_of w in
    let t = contents_state c.mark.new.self in
    let z = to_z-of_z w64 c.args.position c.ranges.position in
    let a = subst (λ (q : ℤ). StrikeAnswer s q c.mark.result) z c.mark.ensures.answer in
    let b = subst (λ (q : ℤ). Became c.mark.result s (StruckAt q s) t) z c.mark.ensures.after in
    extends (g.P.Problem.meaning w.problem) (strikes c.args.position c.mark.result a b)
