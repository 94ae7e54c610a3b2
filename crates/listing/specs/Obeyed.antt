-- What a command of a file does to a register.
use Rattle.std.specs.Prelude.{◌≡◌, ◌<◌, ◌≤◌, true, List, length, ℤ, pos, ◌≤ℤ◌, is_ok, Ok, Err, Decides, Result}
use Rattle.rows.specs.Judged.{Gives, Unless}
use Rattle.rows.specs.Numbers.{numbers_in}
use Rattle.rows.specs.Rising.{Rising}
use Rattle.rows.specs.declared.row.Row.{Row}
use Rattle.rows.specs.declared.refusal.Refusal.{Refusal}
use Rattle.rows.specs.declared.refusal.Refusal.TheVariants.{NotAdmitted, ParishRange, TableFull, TooManyPositions, NotRising}
use Rattle.lptype.specs.Meaning.{Meaning}
use Rattle.checking.specs.Checking.{CheckAnswer, BasisOfOpen}
use Rattle.walk.specs.Shuffling.{shuffled}
use Rattle.register.specs.Days.{with_order}
use Rattle.register.specs.State.{State, Became, entered, StrikeAnswer, StruckAt, RestoreAnswer, restored}
use Rattle.format.specs.Narrow.{AllNarrow, constraint_of}
use Rattle.format.specs.declared.command.RowNumbers.{RowNumbers}
use Rattle.format.specs.declared.command.Command.{Command}
use Rattle.format.specs.declared.command.Command.TheVariants as command
use Rattle.listing.specs.declared.obeying.Outcome.{Outcome}
use Rattle.listing.specs.declared.obeying.Outcome.TheVariants.{Silent, Passed, Settle}

-- the outcome of a call that is accepted with o
abbrev pub said : Outcome → Result (Unit {0}) Refusal → Result Outcome Refusal
said o (Ok u) = Ok o
said o (Err e) = Err e

-- ---- a row of four numbers

-- a, b or c beyond 32 bits is refused like a row that is not admitted
abbrev pub RowAnswer : Meaning → State → RowNumbers → Result (Unit {0}) Refusal → Type 0
RowAnswer m s n =
    Unless NotAdmitted (AllNarrow n × (m.admitted n.a n.b n.c ≡ true))
    (Unless ParishRange ((pos 1 ≤ℤ n.parish) × (n.parish ≤ℤ pos 16))
    (Unless TableFull (length s.rows < 256) (Gives (λ _. Unit {0}))))

-- ---- a list of numbers

abbrev pub HandedAnswer : Meaning → List Row → List ℤ → Result (Unit {0}) Refusal → Type 0
HandedAnswer m rows xs =
    Unless TooManyPositions (length xs ≤ 8) (Unless NotRising (Rising xs (length xs)) (CheckAnswer m rows xs))

-- the numbers are a list of positions, and a basis of the open rows
pub record HandedBasis (m : Meaning) (rows : List Row) (xs : List ℤ) : Type 0 where
  pub few : length xs ≤ 8
  pub rising : Rising xs (length xs)
  pub basis : BasisOfOpen m rows xs

-- ---- commands

-- the command is answered as the call on the register is, which makes t of s; a settle is left to the register's owner
abbrev pub CommandAnswer : Meaning → State → Command → Result Outcome Refusal → State → Type 0
CommandAnswer m s (command.Row n) r t = (q : Result (Unit {0}) Refusal) × (r ≡ said Silent q) × RowAnswer m s n q × Became q s (λ u. u ≡ entered (constraint_of n) s) t
CommandAnswer m s (command.Strike p) r t = (q : Result (Unit {0}) Refusal) × (r ≡ said Silent q) × StrikeAnswer s p q × Became q s (StruckAt p s) t
CommandAnswer m s (command.Restore p) r t = (q : Result (Unit {0}) Refusal) × (r ≡ said Silent q) × RestoreAnswer s p q × Became q s (λ u. u ≡ restored p s) t
CommandAnswer m s (command.Check numbers) r t = (q : Result (Unit {0}) Refusal) × (r ≡ said Passed q) × HandedAnswer m s.rows (numbers_in numbers) q × Decides (is_ok q) (HandedBasis m s.rows (numbers_in numbers)) × (t ≡ s)
CommandAnswer m s (command.Shuffle seed) r t = (r ≡ Ok Silent) × (t ≡ with_order (shuffled (length s.rows) seed) s)
CommandAnswer m s command.Settle r t = (r ≡ Ok Settle) × (t ≡ s)
