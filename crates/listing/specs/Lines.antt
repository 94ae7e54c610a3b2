-- What a line of a file does to a register.
use Rattle.std.specs.Prelude.{◌≡◌, ℕ, List, Err, Result, MatchResult}
use Rattle.rows.specs.declared.refusal.Refusal.{Refusal}
use Rattle.lptype.specs.Meaning.{Meaning}
use Rattle.register.specs.State.{State}
use Rattle.format.specs.Command.{CommandRead}
use Rattle.format.specs.declared.command.Command.{Command}
use Rattle.listing.specs.Obeyed.{CommandAnswer}
use Rattle.listing.specs.declared.obeying.Outcome.{Outcome}

-- the line is read, and its command carried out; a line that is not read is refused so and changes nothing
abbrev pub LineAnswer : Meaning → State → List ℕ → Result Outcome Refusal → State → Type 0
LineAnswer m s line r t =
    (k : Result Command Refusal) × CommandRead line k × MatchResult k (λ c. CommandAnswer m s c r t) (λ e. (r ≡ Err e) × (t ≡ s))
