-- What a list handed in becomes.
use Rattle.std.specs.Prelude.{◌≡◌, ◌≤◌, List, length, ℤ, Result}
use Rattle.rows.specs.Numbers.{numbers_in}
use Rattle.rows.specs.Rising.{Rising}
use Rattle.rows.specs.Judged.{Gives, Unless}
use Rattle.rows.specs.declared.positions.Positions.{Positions}
use Rattle.rows.specs.declared.refusal.Refusal.{Refusal}
use Rattle.rows.specs.declared.refusal.Refusal.TheVariants.{TooManyPositions, NotRising}

abbrev pub positions : Positions → List ℤ
positions p = numbers_in p.list

abbrev pub ListMade : List ℤ → Result Positions Refusal → Type 0
ListMade xs = Unless TooManyPositions (length xs ≤ 8) (Unless NotRising (Rising xs (length xs)) (Gives (λ p. positions p ≡ xs)))
