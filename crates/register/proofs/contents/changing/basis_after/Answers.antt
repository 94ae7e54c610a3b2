use Rattle.std.proofs.Common.{ℤ, sym, subst, w64}
use Rattle.std.proofs.lemmas.Int.{to_z-of_z}
use Rattle.rows.specs.List.{positions}
use Rattle.register.specs.State.{Emptied, BasisAfter}
use Rattle.register.proofs.contents.changing.basis_after.Goals as goal

pub returns-in-Struck : goal.returns-in-Struck
returns-in-Struck c =
    let before = positions c.args.basis in
    let after = positions c.basis_without.result in
    let z = to_z-of_z w64 c.args.position c.ranges.position in
    subst (λ mark. BasisAfter mark c.args.position before after) (sym c.in-Struck.is) (subst (λ (q : ℤ). Emptied q before after) z c.basis_without.ensures)
