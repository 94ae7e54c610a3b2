use Rattle.std.proofs.Common.{◌≡◌, inl, arith}
use Rattle.std.proofs.lemmas.Int.{to_z-of_z}
use Rattle.std.proofs.lemmas.Result.{err_from_is_err_and}
use Rattle.rows.specs.declared.refusal.Refusal.TheVariants.{NoNumber}
use Rattle.std.proofs.lemmas.Grind.{common_steps}
use Rattle.format.proofs.Filling.{filled_more, filled_stop, filled_room}
use Rattle.format.proofs.statement.read_numbers.Goals as goal

pub returns-in_err-number : goal.returns-in_err-number
returns-in_err-number c =
    let none = rw c.in_err-number.ensures.ok_part at (c.number.ensures c.in-Some.ensures.steps.1) in
    let given = rw c.in_err-number.ensures.ok_part at c.in_err-number.ensures.value in
    let is : c.in_err-number.field-0.0 ≡ NoNumber = cc in
    let p = err_from_is_err_and c.from_residual.result c.from_residual.ensures.1 in
    rw (p.1, p.2) (inl (is, filled_stop _ _ _ _ _ c.loop-token.invariant c.in-Some.ensures.steps.0.0 none))

pub push-requires : goal.push-requires
push-requires c =
    let writes = rw c.in_ok-number.ensures.ok_part at (c.number.ensures c.in-Some.ensures.steps.1) in
    (omega arith, filled_room _ _ _ _ _ c.loop-token.invariant c.in-Some.ensures.steps.0.0 c.requires (c.in_ok-number.number, writes))

pub loop-token-preserved : goal.loop-token-preserved
loop-token-preserved c = grind (arith, common_steps, filled_more, to_z-of_z)
