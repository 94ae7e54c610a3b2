-- A line that is read as its word and its numbers.
use Rattle.std.specs.Prelude.{◌≡◌, ℕ, Bool, List, Result}
use Rattle.rows.specs.Numbers.{numbers_in}
use Rattle.rows.specs.declared.refusal.Refusal.{Refusal}
use Rattle.fields.specs.Fields.{fields}
use Rattle.format.specs.Command.{LineRead, written}
use Rattle.format.specs.declared.statement.Statement.{Statement}

-- a line as the word and the numbers that it is written with
abbrev pub StatementRead : {W : Type 0} {g : _} → (W → List ℕ) → (W → ℕ → Bool) → List ℕ → Result (Statement W g) Refusal → Type 0
StatementRead spelling counts line =
    LineRead spelling counts (λ s. fields line ≡ written spelling s.word (numbers_in s.numbers)) line
