-- Which fields are numbers, and which number each is.
use Rattle.std.specs.Prelude.{◌≡◌, ℕ, ◌^◌, ◌<◌, List, ℤ, Some, Option, MatchOption, unsigned_abs}
use Rattle.std.specs.Fmt.{signed_decimal}

-- field is the decimal writing of z, which has at most ten digits
abbrev pub Writes : List ℕ → ℤ → Type 0
Writes field z = (field ≡ signed_decimal z) × (unsigned_abs z < 10 ^ 10)

abbrev pub IsNumber : List ℕ → Type 0
IsNumber field = (z : ℤ) × Writes field z

-- the number that the field writes; none where it writes no number
abbrev pub NumberRead : List ℕ → Option ℤ → Type 0
NumberRead field r = MatchOption r (IsNumber field → ⊥) (λ z. Writes field z)

-- a number is read exactly where the field is its writing
abbrev pub ReadExactly : List ℕ → Option ℤ → Type 0
ReadExactly field r = (z : ℤ) → (r ≡ Some z → Writes field z) × (Writes field z → r ≡ Some z)
