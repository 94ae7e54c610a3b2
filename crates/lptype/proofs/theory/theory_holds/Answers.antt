use Rattle.lptype.proofs.Derived.{same_raises, whole}
use Rattle.lptype.proofs.Standing.{basis, short, once}
use Rattle.lptype.proofs.theory.theory_holds.Goals as goal

pub returns : goal.returns
returns g c =
    let m = g.P.Problem.meaning c.args.problem.now in
    let l = g.met.P.Problem.lawful c.args.problem.now in
    record { same_raises = same_raises m l; whole = whole m l; basis = basis m l; short = short m l; once = once m l }
