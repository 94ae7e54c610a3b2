use Rattle.std.proofs.Common.{◌^◌, ◌<◌, ◌∷◌, pos, ◌≤ℤ◌, subst, arith, w64}
use Rattle.std.proofs.lemmas.Int.{to_z_pos, ints}
use Rattle.rows.specs.List.{positions}
use Rattle.rows.specs.Row.{Named}
use Rattle.lptype.specs.Questions.{ExchangeAnswer}
use Rattle.walk.proofs.Stepping.{exchanged_by}
use Rattle.walk.proofs.walking.change.Goals as goal

pub returns : goal.returns
returns g c =
    let m = g.P.Problem.meaning c.args.problem.now in
    let rows = c.args.rows.now in
    let ps = positions c.args.basis.now in
    let i = c.args.place in
    let f : i < 2 ^ 63 = omega (arith, c.requires.few, c.requires.there) in
    let z = to_z_pos w64 i f in
    let at_least : pos 0 ≤ℤ pos i = omega (arith, ints) in
    let n : Named rows (pos i ∷ ps) = ((at_least, c.requires.there), c.requires.named) in
    let after = positions c.exchange.new.list in
    exchanged_by m rows c.requires.admitted ps (pos i) n c.requires.stands after c.exchange.result (subst (λ p. ExchangeAnswer m rows ps p after c.exchange.result) z c.exchange.ensures)
