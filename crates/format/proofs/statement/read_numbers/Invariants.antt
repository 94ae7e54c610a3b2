use Rattle.fields.specs.Fields.{left}
use Rattle.rows.specs.Numbers.{numbers_in}
use Rattle.format.proofs.Filling.{Filled}
use Rattle.format.proofs.statement.read_numbers.Given as goal

abbrev pub invariant-loop-token : goal.invariant-loop-token
invariant-loop-token l = Filled (left l.fn.fields) (left l.token-iterator) (numbers_in l.numbers)
