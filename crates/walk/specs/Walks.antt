-- The walk as a relation between the place in the order, the basis, and the tests and exchanges so far.
use Rattle.std.specs.Prelude.{◌≡◌, ℕ, ◌+◌, ◌-◌, ◌^◌, ◌<◌, ◌≤◌, min, List, map, length, ℤ, pos, slice_index}
use Rattle.std.specs.List.{AllByRecursion}
use Rattle.rows.specs.Row.{Named, AllOpen, row_at, at, picked}
use Rattle.rows.specs.declared.row.Constraint.{Constraint}
use Rattle.rows.specs.declared.row.Row.{Row}
use Rattle.rows.specs.declared.row.Mark.TheVariants.{Open, Struck}
use Rattle.lptype.specs.Meaning.{Meaning, Admitted, Raises, Quiet, Stands}
use Rattle.lptype.specs.Questions.{Exchanged}
use Rattle.checking.specs.Filed.{OnOpen, Covers}
use Rattle.checking.specs.Checking.{BasisOfOpen}

-- one more, and no more than 64 bits hold
abbrev pub more : ℕ → ℕ
more n = min (n + 1) (2 ^ 64 - 1)

-- the position at a place of the order
abbrev pub position : List ℕ → ℕ → ℤ
position order i = pos (slice_index order i)

-- how a walk can come to a place with a basis, after so many tests and so many exchanges
pub data Walked (m : Meaning) (rows : List Row) (order : List ℕ) (start : List ℤ) : ℕ → List ℤ → ℕ → ℕ → Type 0 where
  begin : Walked m rows order start 0 start 0 0
  -- a struck row is passed over, uncounted
  pass : {i t x : ℕ} {ps : List ℤ} → Walked m rows order start i ps t x → i < length order
      → (row_at rows (position order i)).mark ≡ Struck → Walked m rows order start (i + 1) ps t x
  -- an open row that does not raise the value: one test
  hold : {i t x : ℕ} {ps : List ℤ} → Walked m rows order start i ps t x → i < length order
      → (row_at rows (position order i)).mark ≡ Open → Quiet m (picked rows ps) (at rows (position order i)) → Walked m rows order start (i + 1) ps (more t) x
  -- an open row that raises it: one test, one exchange, and back to the first place
  exchange : {i t x : ℕ} {ps after : List ℤ} → Walked m rows order start i ps t x → i < length order
      → (row_at rows (position order i)).mark ≡ Open → Raises m (picked rows ps) (at rows (position order i))
      → Exchanged m rows ps (position order i) after → Walked m rows order start 0 after (more t) (more x)

-- the walk has gone through the whole order
abbrev pub WalkEnds : Meaning → List Row → List ℕ → List ℤ → List ℤ → ℕ → ℕ → Type 0
WalkEnds m rows order start ps t x = Walked m rows order start (length order) ps t x

-- how many places the walk has visited
abbrev pub visits : {m : Meaning} {rows : List Row} {order : List ℕ} {start : List ℤ} {i : ℕ} {ps : List ℤ} {t x : ℕ} → Walked m rows order start i ps t x → ℕ
visits begin = 0
visits (pass w l e) = visits w + 1
visits (hold w l e q) = visits w + 1
visits (exchange w l e r c) = visits w + 1

-- what a walk asks for: admitted rows that can be counted, an order of their places, and a basis on open rows that stands
pub record WalkReady (m : Meaning) (rows : List Row) (order : List ℕ) (start : List ℤ) : Type 0 where
  pub admitted : Admitted m (map (λ row. row.constraint) rows)
  pub few : length rows ≤ 256
  pub below : AllByRecursion (λ k. k < length rows) order
  pub filed : OnOpen rows start
  pub stands : Stands m (picked rows start)

-- no open row before place i of the order raises the value of F
abbrev pub QuietUntil : Meaning → List Row → List ℕ → List Constraint → ℕ → Type 0
QuietUntil m rows order F i = (k : ℕ) → k < i → (row_at rows (position order k)).mark ≡ Open → Quiet m F (at rows (position order k))

-- what holds wherever a walk is
pub record Underway (m : Meaning) (rows : List Row) (order : List ℕ) (i : ℕ) (ps : List ℤ) : Type 0 where
  pub inside : i ≤ length order
  pub named : Named rows ps
  pub all_open : AllOpen rows ps
  pub stands : Stands m (picked rows ps)
  pub quiet : QuietUntil m rows order (picked rows ps) i

pub record WalkLaw (m : Meaning) (rows : List Row) (order : List ℕ) (start : List ℤ) : Type 0 where
  pub underway : (i t x : ℕ) (ps : List ℤ) → Walked m rows order start i ps t x → Underway m rows order i ps
  -- a walk through all rows ends at a basis of the open rows
  pub ends : (t x : ℕ) (ps : List ℤ) → Covers order (length rows) → WalkEnds m rows order start ps t x → BasisOfOpen m rows ps
  -- no walk goes on for ever
  pub bounded : (n : ℕ) × ((i t x : ℕ) (ps : List ℤ) (w : Walked m rows order start i ps t x) → visits w ≤ n)
