-- A list of bytes cut at one byte.
use Rattle.std.specs.Prelude.{◌≡◌, ℕ, cond, List, [], ◌∷◌, ◌++◌, ◌==◌, ◌≢◌}
use Rattle.std.specs.List.{AllByRecursion}

-- the parts with b put before the first of them
abbrev pub led : ℕ → List (List ℕ) → List (List ℕ)
led b [] = (b ∷ []) ∷ []
led b (p ∷ ps) = (b ∷ p) ∷ ps

-- the parts between the bytes sep: always one part more than there are such bytes
abbrev pub parts : ℕ → List ℕ → List (List ℕ)
parts sep [] = [] ∷ []
parts sep (b ∷ bs) = cond (b == sep) ([] ∷ parts sep bs) (led b (parts sep bs))

-- the parts put together again, with sep between them
abbrev pub rejoined : ℕ → List (List ℕ) → List ℕ
rejoined sep [] = []
rejoined sep (p ∷ []) = p
rejoined sep (p ∷ q ∷ ps) = p ++ sep ∷ rejoined sep (q ∷ ps)

abbrev pub Without : ℕ → List ℕ → Type 0
Without sep p = AllByRecursion (λ b. b ≢ sep) p

-- ps are parts of bs, none of them holds sep, and they give bs back
abbrev pub PartsOf : ℕ → List ℕ → List (List ℕ) → Type 0
PartsOf sep bs ps = (rejoined sep ps ≡ bs) × AllByRecursion (Without sep) ps
