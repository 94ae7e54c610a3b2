-- What is printed for an input line.
use Rattle.std.specs.Prelude.{ℕ, List, [], ◌∷◌, ◌++◌, length, ℤ, Ok, Err, codes, decimal, Result}
use Rattle.std.specs.Fmt.{signed_decimal}
use Rattle.std.specs.List.{flat_map}
use Rattle.rows.specs.Number.{number_of}
use Rattle.rows.specs.declared.refusal.Refusal.{Refusal}
use Rattle.listing.specs.declared.obeying.Outcome.{Outcome}
use Rattle.listing.specs.declared.obeying.Outcome.TheVariants.{Silent, Passed, Settle}

abbrev pub refused_line : ℕ → ℕ → List ℕ
refused_line line number = codes "refused," ++ (decimal line ++ (codes "," ++ (decimal number ++ (10 ∷ []))))

abbrev pub passes_line : ℕ → List ℕ
passes_line line = codes "passes," ++ (decimal line ++ (10 ∷ []))

-- nothing where there is nothing to say, and for a settle what the settled register says
abbrev pub reported : ℕ → Result Outcome Refusal → List ℕ
reported line (Err e) = refused_line line (number_of e)
reported line (Ok Passed) = passes_line line
reported line (Ok Silent) = []
reported line (Ok Settle) = []

-- ---- a settled register

-- each position, with a comma before it
abbrev pub listed : List ℤ → List ℕ
listed ps = flat_map (λ p. codes "," ++ signed_decimal p) ps

-- how many positions the basis has, and which
abbrev pub basis_line : ℕ → List ℤ → List ℕ
basis_line line ps = codes "basis," ++ (decimal line ++ (codes "," ++ (decimal (length ps) ++ (listed ps ++ (10 ∷ [])))))

-- how many tests and exchanges the walk made
abbrev pub walk_line : ℕ → ℕ → ℕ → List ℕ
walk_line line tests exchanges = codes "walk," ++ (decimal line ++ (codes "," ++ (decimal tests ++ (codes "," ++ (decimal exchanges ++ (10 ∷ []))))))

-- the basis, the line of its answer, and the counts
abbrev pub settled_lines : ℕ → List ℤ → List ℕ → ℕ → ℕ → List ℕ
settled_lines line ps answer tests exchanges = basis_line line ps ++ (answer ++ walk_line line tests exchanges)
