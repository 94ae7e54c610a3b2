use Rattle.std.proofs.Common.{◌∙◌, pos, sym, rules, tests}
use Rattle.std.proofs.lemmas.Bool.{false≢true}
use Rattle.std.proofs.lemmas.Iterator.{YieldsList-from_slice}
use Rattle.rows.specs.List.{positions}
use Rattle.rows.proofs.Placing.{decides_all}
use Rattle.lptype.specs.Search.{QuietAt}
use Rattle.lptype.proofs.problem.Problem.qualifies.Goals as goal

pub returns-then-all : goal.returns-then-all
returns-then-all g c =
    let pool = c.args.pool.now in
    let P = QuietAt (g.Self.Problem.meaning c.args.self.now) c.args.rows.now (positions c.args.list.now) in
    let each = decides_all P (pos 0) _ _ c.all.result c.all.ensures.ran (YieldsList-from_slice pool cc) (λ x q k. search (rules, tests)) (λ x q k. search (rules, tests)) in
    ((λ e. (c.stands_at.ensures.0 e, each.0 c.if-all.true)), λ q. c.stands_at.ensures.1 q.0)

pub returns-else-all : goal.returns-else-all
returns-else-all g c =
    let pool = c.args.pool.now in
    let P = QuietAt (g.Self.Problem.meaning c.args.self.now) c.args.rows.now (positions c.args.list.now) in
    let each = decides_all P (pos 0) _ _ c.all.result c.all.ensures.ran (YieldsList-from_slice pool cc) (λ x q k. search (rules, tests)) (λ x q k. search (rules, tests)) in
    ((λ e. absurd (false≢true (sym c.if-all.false ∙ e))), λ q. each.1 q.1)
