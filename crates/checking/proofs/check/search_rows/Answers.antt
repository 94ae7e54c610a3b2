use Rattle.checking.proofs.Admitting.{admitted_row}
use Rattle.checking.proofs.check.search_rows.Goals as goal

pub is_raised-requires-clause-admitted : goal.is_raised-requires-clause-admitted
is_raised-requires-clause-admitted g c = (admitted_row (g.P.Problem.meaning c.args.problem.now) c.args.rows.now c.requires.admitted c.loop-i.i c.loop-i-test.true, c.requires.listed)
