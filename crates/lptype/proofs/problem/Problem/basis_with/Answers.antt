use Rattle.std.proofs.Common.{Ok, subst, sym, w64, to_z, of_z}
use Rattle.std.proofs.lemmas.Int.{to_z-of_z}
use Rattle.rows.specs.List.{positions}
use Rattle.rows.specs.Pool.{pooled}
use Rattle.rows.proofs.Rise.{positions_rise}
use Rattle.lptype.specs.Questions.{ViolatesAnswer}
use Rattle.lptype.specs.Search.{BasisAnswer}
use Rattle.lptype.proofs.Searching.{answer_kept, answer_searched}
use Rattle.lptype.proofs.problem.Problem.basis_with.Goals as goal

pub returns-then-not-branch : goal.returns-then-not-branch
returns-then-not-branch g c =
    let m = g.Self.Problem.meaning c.args.self.now in
    let l = g.met.Self.Problem.lawful c.args.self.now in
    let list = c.args.list.now in
    let h = to_z w64 (of_z w64 c.args.h) in
    let v = subst (λ b. ViolatesAnswer m c.args.rows.now (positions list) h (Ok b)) c.if-not-branch.true c.in_ok-violates.ensures in
    subst (λ x. BasisAnswer m c.args.rows.now (positions list) x (Ok list)) (to_z-of_z w64 c.args.h c.ranges.h) (answer_kept m l c.args.rows.now list h v)

pub returns : goal.returns
returns g c =
    let m = g.Self.Problem.meaning c.args.self.now in
    let l = g.met.Self.Problem.lawful c.args.self.now in
    let list = c.args.list.now in
    let h = to_z w64 (of_z w64 c.args.h) in
    let v = subst (λ b. ViolatesAnswer m c.args.rows.now (positions list) h (Ok b)) c.if-not-branch.false c.in_ok-violates.ensures in
    let found = answer_searched m l c.args.rows.now (positions list) h list (pooled c.with.result) c.basis_of.result (positions_rise list) v c.with.ensures c.basis_of.ensures in
    subst (λ x. BasisAnswer m c.args.rows.now (positions list) x (Ok c.unwrap_or.result)) (to_z-of_z w64 c.args.h c.ranges.h)
    (subst (λ p. BasisAnswer m c.args.rows.now (positions list) h (Ok p)) (sym c.unwrap_or.ensures) found)
