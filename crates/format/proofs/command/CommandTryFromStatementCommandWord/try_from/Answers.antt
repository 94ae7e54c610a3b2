use Rattle.std.proofs.Common.{get_or, pos, arith, w64, SFits, rules}
use Rattle.std.proofs.lemmas.Grind.{common_steps}
use Rattle.std.proofs.lemmas.Result.{err_from_is_err_and}
use Rattle.std.proofs.lemmas.Int.{to_z-of_z}
use Rattle.format.proofs.Seeding.{shuffle_refused}
use Rattle.format.proofs.Stating.{four}
use Rattle.format.proofs.command.CommandTryFromStatementCommandWord.try_from.Goals as goal

pub returns-in_err-seed-in-Shuffle : goal.returns-in_err-seed-in-Shuffle
returns-in_err-seed-in-Shuffle c =
    let p = err_from_is_err_and c.from_residual.result c.from_residual.ensures.1 in
    let fits : SFits w64 (get_or c.as_slice-at.result.now 0 (pos 0)) = search rules in
    let judged = simp to_z-of_z at c.in_err-seed-in-Shuffle.ensures in
    rw (p.1, p.2) (shuffle_refused _ _ _ _ c.in-Shuffle.is c.as_slice-at.ensures.value c.args.statement.counted fits.sfits judged)

pub returns-in-Row : goal.returns-in-Row
returns-in-Row c = grind (arith, common_steps, four)
