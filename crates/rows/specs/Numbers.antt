-- The numbers that a list of them holds.
use Rattle.std.specs.Prelude.{ℕ, List, take, ℤ}
use Rattle.rows.specs.declared.numbers.Numbers.{Numbers}

abbrev pub numbers_in : {N : ℕ} → Numbers N → List ℤ
numbers_in s = take s.len s.at
