-- What one row does to a walk: to the basis, to the counts and to the place.
use Rattle.std.specs.Prelude.{◌≡◌, ℕ, ◌+◌, ◌<◌, ◌≤◌, List, map, length, ℤ}
use Rattle.rows.specs.Row.{Named, row_at, at, picked}
use Rattle.rows.specs.declared.row.Row.{Row}
use Rattle.rows.specs.declared.row.Mark.TheVariants.{Open, Struck}
use Rattle.lptype.specs.Meaning.{Meaning, Admitted, Raises, Quiet, Stands}
use Rattle.lptype.specs.Questions.{Exchanged}
use Rattle.walk.specs.Walks.{more}
use Rattle.walk.specs.declared.walking.Counts.{Counts}
use Rattle.walk.specs.declared.walking.Step.{Step}
use Rattle.walk.specs.declared.walking.Step.TheVariants.{Passed, Kept, Changed}

-- what a step asks for: admitted rows that can be counted, a basis of them that stands, and a place that has a row
pub record Tested (m : Meaning) (rows : List Row) (ps : List ℤ) (place : ℕ) : Type 0 where
  pub admitted : Admitted m (map (λ row. row.constraint) rows)
  pub few : length rows ≤ 256
  pub named : Named rows ps
  pub stands : Stands m (picked rows ps)
  pub there : place < length rows

-- what the row at h makes of the basis ps
abbrev pub StepAnswer : Meaning → List Row → List ℤ → ℤ → List ℤ → Step → Type 0
StepAnswer m rows ps h after Passed = ((row_at rows h).mark ≡ Struck) × (after ≡ ps)
StepAnswer m rows ps h after Kept = ((row_at rows h).mark ≡ Open) × Quiet m (picked rows ps) (at rows h) × (after ≡ ps)
StepAnswer m rows ps h after Changed = ((row_at rows h).mark ≡ Open) × Raises m (picked rows ps) (at rows h) × Exchanged m rows ps h after

abbrev pub no_counts : Counts
no_counts = record { tests = 0; exchanges = 0 }

abbrev pub counted : Step → Counts → Counts
counted Passed c = c
counted Kept c = record { tests = more c.tests; exchanges = c.exchanges }
counted Changed c = record { tests = more c.tests; exchanges = more c.exchanges }

abbrev pub next_place : Step → ℕ → ℕ
next_place Passed i = i + 1
next_place Kept i = i + 1
next_place Changed i = 0

-- what is left of an order after a step: all of it after an exchange, else what comes later
abbrev pub left_after : Step → List ℕ → List ℕ → List ℕ
left_after Passed order later = later
left_after Kept order later = later
left_after Changed order later = order
