use Rattle.std.proofs.Common.{◌≡◌, arith, w32, w64, SFits, to_z, of_z, rules}
use Rattle.std.proofs.lemmas.Int.{to_z-of_z, ints}
use Rattle.format.specs.Narrow.{Narrow, narrowed}
use Rattle.format.proofs.narrowing.ConstraintTryFromRowNumbers.try_from.Goals as goal

pub returns : goal.returns
returns c =
    let n = c.args.numbers in
    let ga : SFits w64 n.a = search rules in
    let gb : SFits w64 n.b = search rules in
    let gc : SFits w64 n.c = search rules in
    let gp : SFits w64 n.parish = search rules in
    let na : Narrow n.a = simp to_z-of_z at c.in_ok-narrow.ensures.0 in
    let nb : Narrow n.b = simp to_z-of_z at c.in_ok-narrow-2.ensures.0 in
    let nc : Narrow n.c = simp to_z-of_z at c.in_ok-narrow-3.ensures.0 in
    let fa : SFits w32 c.in_ok-narrow.field-0 = search rules in
    let fb : SFits w32 c.in_ok-narrow-2.field-0 = search rules in
    let fc : SFits w32 c.in_ok-narrow-3.field-0 = search rules in
    let ea : to_z w32 (of_z w32 c.in_ok-narrow.field-0) ≡ n.a = omega (arith, ints, c.in_ok-narrow.ensures.1) in
    let eb : to_z w32 (of_z w32 c.in_ok-narrow-2.field-0) ≡ n.b = omega (arith, ints, c.in_ok-narrow-2.ensures.1) in
    let ec : to_z w32 (of_z w32 c.in_ok-narrow-3.field-0) ≡ n.c = omega (arith, ints, c.in_ok-narrow-3.ensures.1) in
    let ep : c.narrow_parish.result ≡ narrowed n.parish = simp to_z-of_z at c.narrow_parish.ensures in
    ((na, (nb, nc)), cc)
