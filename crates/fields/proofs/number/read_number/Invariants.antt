use Rattle.std.proofs.Common.{take}
use Rattle.fields.proofs.Reading.{Read}
use Rattle.fields.proofs.number.read_number.Given as goal

abbrev pub invariant-loop-byte : goal.invariant-loop-byte
invariant-loop-byte l = Read l.reader (take l.byte-index l.field)
