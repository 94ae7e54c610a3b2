use Rattle.std.proofs.Common.{arith}
use Rattle.std.proofs.lemmas.Grind.{common_steps}
use Rattle.fields.proofs.Cutting.{length_parts, parts_of}
use Rattle.fields.proofs.token.field_count.Goals as goal

pub returns-clause-count : goal.returns-clause-count
returns-clause-count c = grind (arith, common_steps, length_parts)

pub returns-clause-parts : goal.returns-clause-parts
returns-clause-parts c = parts_of 44 c.args.line.now
