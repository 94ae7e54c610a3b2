use Rattle.std.proofs.Common.{sym, ◌∙◌, subst}
use Rattle.rows.specs.List.{positions}
use Rattle.lptype.specs.Meaning.{Admitted}
use Rattle.checking.proofs.Admitting.{admitted_row, admitted_picked}
use Rattle.walk.proofs.walking.visit.Goals as goal

pub is_raised-requires-clause-admitted : goal.is_raised-requires-clause-admitted
is_raised-requires-clause-admitted g c =
    let m = g.P.Problem.meaning c.args.problem.now in
    let rows = c.args.rows.now in
    let listed = admitted_picked m rows c.requires.admitted (positions c.args.basis.now) c.requires.named in
    (admitted_row m rows c.requires.admitted c.args.place c.requires.there, subst (Admitted m) (sym (c.deref.ensures.0 ∙ c.picked.ensures)) listed)
