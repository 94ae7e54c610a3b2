-- The status number of each refusal.
use Rattle.std.specs.Prelude.{ℕ}
use Rattle.rows.specs.declared.refusal.Refusal.{Refusal}
use Rattle.rows.specs.declared.refusal.Refusal.TheVariants.{NotAdmitted, ParishRange, TableFull, NoRow, AlreadyStruck, AlreadyOpen, TooManyPositions, NotRising, StruckRow, NotStanding, Violated, UnknownWord, NoNumber, FieldCount, LongLine, SeedRange}

abbrev pub number_of : Refusal → ℕ
number_of NotAdmitted = 1
number_of ParishRange = 2
number_of TableFull = 3
number_of NoRow = 4
number_of AlreadyStruck = 5
number_of AlreadyOpen = 6
number_of TooManyPositions = 7
number_of NotRising = 8
number_of StruckRow = 9
number_of NotStanding = 10
number_of (Violated p) = 11
number_of UnknownWord = 12
number_of NoNumber = 13
number_of FieldCount = 14
number_of LongLine = 15
number_of SeedRange = 16
