-- The lines of a file.
use Rattle.std.specs.Prelude.{ℕ, cond, List, [], ◌∷◌, ◌==◌}
use Rattle.fields.specs.Parts.{led}

-- a line ends with byte 10 or with the file, and none begins at the file's end
abbrev pub lines : List ℕ → List (List ℕ)
lines [] = []
lines (b ∷ bs) = cond (b == 10) ([] ∷ lines bs) (led b (lines bs))

-- bytes with no byte 10 after them are a line if there are any
abbrev pub opened : List ℕ → List (List ℕ)
opened [] = []
opened (b ∷ bs) = (b ∷ bs) ∷ []
