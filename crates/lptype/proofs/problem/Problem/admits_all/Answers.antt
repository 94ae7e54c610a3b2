use Rattle.std.proofs.Common.{pos, rules, tests}
use Rattle.std.proofs.lemmas.Iterator.{YieldsList-from_slice}
use Rattle.rows.proofs.Placing.{decides_all}
use Rattle.lptype.specs.Places.{FineAt}
use Rattle.lptype.proofs.Naming.{each_fine}
use Rattle.lptype.proofs.problem.Problem.admits_all.Goals as goal

pub returns : goal.returns
returns g c =
    let m = g.Self.Problem.meaning c.args.self.now in
    let rows = c.args.rows.now in
    let list = c.args.list.now in
    let P = FineAt m rows in
    let each = decides_all P (pos 0) _ _ c.all.result c.all.ensures.ran (YieldsList-from_slice list cc) (λ x q k. search (rules, tests)) (λ x q k. search (rules, tests)) in
    let fine = each_fine m rows list in
    ((λ e. fine.0 (each.0 e)), λ a. each.1 (fine.1 a))
