use Rattle.std.proofs.Common.{is_ok, Decides, sym, refl, subst}
use Rattle.register.specs.Calls.{state_of}
use Rattle.listing.specs.Obeyed.{CommandAnswer, HandedAnswer, HandedBasis}
use Rattle.listing.proofs.obeying.obey.Goals as goal

pub returns-in-Check-clause-answer : goal.returns-in-Check-clause-answer
returns-in-Check-clause-answer g c =
    let w = c.args.register.now in
    let m = g.P.Problem.meaning w.problem in
    let s = state_of w in
    let q = c.check_numbers.result in
    let a = subst (λ xs. HandedAnswer m s.rows xs q) c.as_slice.ensures.value c.check_numbers.ensures.answer in
    let d = subst (λ xs. Decides (is_ok q) (HandedBasis m s.rows xs)) c.as_slice.ensures.value c.check_numbers.ensures.passes in
    subst (λ k. CommandAnswer m s k c.says-in-Check.result s) (sym c.in-Check.is) (q, c.says-in-Check.ensures, a, d, refl)
