-- The law of a whole day: nobody who brings an answer of their own can better a settled one.
use Rattle.std.specs.Prelude.{◌≡◌, ℕ, true, List, ◌∷◌, ◌++◌, map, ℤ, is_ok, Some, None, Decides, Option, Result}
use Rattle.rows.specs.Row.{picked}
use Rattle.rows.specs.declared.row.Row.{Row}
use Rattle.rows.specs.declared.refusal.Refusal.{Refusal}
use Rattle.lptype.specs.Meaning.{Meaning, KeepsAll}
use Rattle.lptype.specs.Questions.{Best}
use Rattle.checking.specs.Checking.{CheckAnswer, BasisOfOpen, open_rows}
use Rattle.walk.specs.Walks.{WalkEnds}
use Rattle.register.specs.State.{State}
use Rattle.register.specs.Days.{Call, settling, checking, Phase, working, settled, with_basis, Day}

-- none where no rival keeps all open rows; otherwise a rival that keeps them all, and no rival that does is smaller
abbrev pub BestOfOpen : (m : Meaning) → List Row → Option m.Rival → Type 0
BestOfOpen m rows None = (q : m.Rival) → KeepsAll m q (open_rows rows) → ⊥
BestOfOpen m rows (Some r) = KeepsAll m r (open_rows rows) × ((q : m.Rival) → KeepsAll m q (open_rows rows) → m.le (m.size r) (m.size q) ≡ true)

-- the phase was settled by a walk from what the calls before the last settle left, and only checks came after it
pub record SettledBy (m : Meaning) (calls : List Call) (s : State) (tests exchanges : ℕ) : Type 0 where
  pub before : List Call
  pub lists : List (List ℤ)
  pub start : State
  pub came : calls ≡ before ++ (settling ∷ map checking lists)
  pub day : Day m before (working start)
  pub walk : WalkEnds m start.rows start.order start.basis s.basis tests exchanges
  pub same : s ≡ with_basis s.basis start

-- whatever check answers, it passes exactly the bases of the open rows
abbrev pub CheckLaw : Meaning → List Row → Type 0
CheckLaw m rows = (ps : List ℤ) (r : Result (Unit {0}) Refusal) → CheckAnswer m rows ps r → Decides (is_ok r) (BasisOfOpen m rows ps)

-- whatever rival, or none, the answer stands for
abbrev pub AnswerLaw : Meaning → State → Type 0
AnswerLaw m s = (o : Option m.Rival) → Best m (picked s.rows s.basis) o → BestOfOpen m s.rows o

abbrev pub Claims : Meaning → List Call → Phase → Type 0
Claims m calls (working s) = CheckLaw m s.rows
Claims m calls (settled s tests exchanges) = CheckLaw m s.rows × (AnswerLaw m s × (BasisOfOpen m s.rows s.basis × SettledBy m calls s tests exchanges))

-- for every day, and every phase that it may come to
abbrev pub DayLaw : Meaning → Type 0
DayLaw m = (calls : List Call) (p : Phase) → Day m calls p → Claims m calls p

-- what an answer of a settled register stands for: the best for the rows of its basis and, on every day, for all open rows
pub record AnswerOf (m : Meaning) (reads : Option m.Rival → Type 0) (s : State) (tests exchanges : ℕ) : Type 0 where
  pub rival : Option m.Rival
  pub stands_for : reads rival
  pub best : Best m (picked s.rows s.basis) rival
  pub law : (calls : List Call) → Day m calls (settled s tests exchanges) → BestOfOpen m s.rows rival
