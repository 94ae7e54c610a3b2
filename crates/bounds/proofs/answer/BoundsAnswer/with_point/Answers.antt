use Rattle.std.proofs.Common.{arith}
use Rattle.std.proofs.lemmas.Int.{to_z-of_z}
use Rattle.bounds.proofs.answer.BoundsAnswer.with_point.Goals as goal

pub returns-in-Sides : goal.returns-in-Sides
returns-in-Sides c = grind (arith, to_z-of_z)
