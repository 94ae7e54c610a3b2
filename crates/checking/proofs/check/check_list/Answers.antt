use Rattle.std.proofs.Common.{sym, ◌∙◌, subst, rules}
use Rattle.rows.specs.List.{positions}
use Rattle.lptype.specs.Meaning.{Admitted}
use Rattle.checking.specs.Checking.{CheckAnswer}
use Rattle.checking.proofs.Admitting.{admitted_picked}
use Rattle.checking.proofs.Passing.{check_passes}
use Rattle.checking.proofs.check.check_list.Goals as goal

pub is_standing-requires : goal.is_standing-requires
is_standing-requires g c =
    let m = g.P.Problem.meaning c.args.problem.now in
    let p = c.in_ok-picked.ensures in
    subst (Admitted m) (sym (c.deref.ensures.0 ∙ p.1.1)) (admitted_picked m c.args.rows.now c.requires.admitted (positions c.args.list.now) p.0)

pub search_rows-requires-clause-listed : goal.search_rows-requires-clause-listed
search_rows-requires-clause-listed g c =
    let m = g.P.Problem.meaning c.args.problem.now in
    let p = c.in_ok-picked.ensures in
    subst (Admitted m) (sym (c.deref-2.ensures.0 ∙ p.1.1)) (admitted_picked m c.args.rows.now c.requires.admitted (positions c.args.list.now) p.0)

pub returns-clause-passes : goal.returns-clause-passes
returns-clause-passes g c =
    let m = g.P.Problem.meaning c.args.problem.now in
    let answer : CheckAnswer m c.args.rows.now (positions c.args.list.now) c.search_rows.result = search rules in
    check_passes m (g.met.P.Problem.lawful c.args.problem.now) c.args.rows.now c.requires.admitted (positions c.args.list.now) c.search_rows.result answer
