use Rattle.std.proofs.Common.{refl, subst, ℤ, Decides, to_z, of_z, w64}
use Rattle.std.proofs.lemmas.Bool.{both_ways}
use Rattle.std.proofs.lemmas.Int.{to_z-of_z}
use Rattle.rows.specs.List.{positions}
use Rattle.lptype.specs.Meaning.{In}
use Rattle.checking.proofs.Occurring.{decides_in}
use Rattle.register.proofs.contents.changing.basis_without.Goals as goal
use Rattle.register.proofs.contents.changing.basis_without.Goals.{After-contains}

-- what the search of the list says
named : (c : After-contains) → Decides c.contains.result (In c.args.position (positions c.args.basis))
named c =
    let p = to_z w64 (of_z w64 c.args.position) in
    let d = decides_in p c.as_slice.result.now c.contains.result c.contains.ensures.cases in
    subst (λ (q : ℤ). Decides c.contains.result (In q (positions c.args.basis))) (to_z-of_z w64 c.args.position c.ranges.position)
    (subst (λ ps. Decides c.contains.result (In p ps)) c.as_slice.ensures d)

pub returns-then-contains : goal.returns-then-contains
returns-then-contains c = ((λ _. c.empty.ensures), λ n. absurd (n ((named (goal.at.returns-then-contains c).After-contains).0 c.if-contains.true)))

pub returns-else-contains : goal.returns-else-contains
returns-else-contains c = ((λ i. absurd (both_ways c.contains.result c.if-contains.false ((named (goal.at.returns-else-contains c).After-contains).1 i))), λ _. refl)
