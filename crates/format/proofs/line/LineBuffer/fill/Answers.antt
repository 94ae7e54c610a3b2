use Rattle.std.proofs.Common.{◌++◌, take, arith}
use Rattle.std.proofs.lemmas.Grind.{common_steps}
use Rattle.format.proofs.Collecting.{end_at, no_end, lines_open}
use Rattle.format.proofs.line.LineBuffer.fill.Goals as goal

pub returns-in_default : goal.returns-in_default
returns-in_default c = grind (arith, common_steps, no_end, lines_open)

pub returns : goal.returns
returns c xs h w =
    let bytes = c.args.bytes.now in
    let end = c.in-Some.end in
    let found = c.in-Some.ensures.found in
    (xs ++ take end bytes, c.extend-2.ensures xs h, omega arith, end_at xs bytes end w found.0 c.in-Some.ensures.before found.1)
