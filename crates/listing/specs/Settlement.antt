-- What is printed for a settled register: the lines of its basis, of its answer and of its counts.
use Rattle.std.specs.Prelude.{◌≡◌, ℕ, List, Option}
use Rattle.lptype.specs.Meaning.{Meaning}
use Rattle.register.specs.State.{State}
use Rattle.register.specs.DayLaw.{AnswerOf}
use Rattle.listing.specs.Text.{settled_lines}

-- reads says which rivals, or none, an answer may stand for; shown is the line of an answer
pub record Printed (m : Meaning) {A : Type 0} (reads : A → Option m.Rival → Type 0) (shown : A → List ℕ) (line : ℕ) (s : State) (tests exchanges : ℕ) (text : List ℕ) : Type 0 where
  pub answer : A
  pub answered : AnswerOf m (reads answer) s tests exchanges
  pub lines : text ≡ settled_lines line s.basis (shown answer) tests exchanges
