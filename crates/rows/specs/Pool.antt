-- A list of positions with one more, and what can be picked from it.
use Rattle.std.specs.Prelude.{◌≡◌, ℕ, ◌/◌, ◌%◌, ◌≤◌, cond, List, [], ◌∷◌, length, ℤ, Option, MatchOption, ◌==◌, int_lt}
use Rattle.rows.specs.Numbers.{numbers_in}
use Rattle.rows.specs.Rising.{Rising}
use Rattle.rows.specs.List.{positions}
use Rattle.rows.specs.declared.positions.Positions.{Positions}
use Rattle.rows.specs.declared.positions.pool.Pool.{Pool}

abbrev pub pooled : Pool → List ℤ
pooled p = numbers_in p.list

-- h put in before the first number that is not below it
abbrev pub inserted : ℤ → List ℤ → List ℤ
inserted h [] = h ∷ []
inserted h (x ∷ xs) = cond (int_lt x h) (x ∷ inserted h xs) (h ∷ (x ∷ xs))

-- the elements whose bit of the mask is set: the lowest bit is for the first element
abbrev pub chosen : List ℤ → ℕ → List ℤ
chosen [] mask = []
chosen (x ∷ xs) mask = cond (mask % 2 == 1) (x ∷ chosen xs (mask / 2)) (chosen xs (mask / 2))

-- at most eight numbers that rise
abbrev pub Listable : List ℤ → Type 0
Listable xs = (length xs ≤ 8) × Rising xs (length xs)

-- the list of exactly these numbers, where they are listable
abbrev pub Made : List ℤ → Option Positions → Type 0
Made xs r = MatchOption r (Listable xs → ⊥) (λ p. Listable xs × (positions p ≡ xs))
