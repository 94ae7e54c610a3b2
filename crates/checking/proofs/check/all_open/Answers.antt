use Rattle.std.proofs.Common.{pos, rules, tests}
use Rattle.std.proofs.lemmas.Iterator.{YieldsList-from_slice}
use Rattle.rows.proofs.Placing.{decides_all}
use Rattle.checking.specs.Checking.{OpenAt}
use Rattle.checking.proofs.check.all_open.Goals as goal

pub returns : goal.returns
returns c =
    let P = OpenAt c.args.rows.now in
    decides_all P (pos 0) _ _ c.all.result c.all.ensures.ran (YieldsList-from_slice c.args.list.now cc) (λ x q k. search (rules, tests)) (λ x q k. search (rules, tests))
