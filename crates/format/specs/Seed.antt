-- Which numbers are seeds.
use Rattle.std.specs.Prelude.{◌≡◌, ℕ, List, ℤ, pos, ◌≤ℤ◌, Result}
use Rattle.rows.specs.Judged.{Gives, Unless}
use Rattle.rows.specs.declared.refusal.Refusal.{Refusal}
use Rattle.rows.specs.declared.refusal.Refusal.TheVariants.{SeedRange}
use Rattle.fields.specs.Numeral.{Writes}

-- a seed is a number of 32 bits with no sign
abbrev pub IsSeed : ℤ → Type 0
IsSeed z = (pos 0 ≤ℤ z) × (z ≤ℤ pos 4294967295)

-- the field writes a seed
abbrev pub WritesSeed : List ℕ → Type 0
WritesSeed field = (z : ℤ) × Writes field z × IsSeed z

-- the seed that a number is; refused where it is none
abbrev pub SeedJudged : ℤ → Result ℕ Refusal → Type 0
SeedJudged z = Unless SeedRange (IsSeed z) (Gives (λ seed. pos seed ≡ z))
