use Rattle.checking.specs.Checking.{QuietBefore}
use Rattle.checking.proofs.check.search_rows.Given as goal

abbrev pub invariant-loop-i : goal.invariant-loop-i
invariant-loop-i g l = QuietBefore (g.P.Problem.meaning l.problem) l.rows l.list l.i
