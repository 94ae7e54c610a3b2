-- How far a number is from 0.
use Rattle.std.specs.Prelude.{ℕ, Bool, ◌&&◌, ℤ, pos, neg_ℤ, int_le}

-- within n of 0
abbrev pub within : ℕ → ℤ → Bool
within n z = int_le (neg_ℤ (pos n)) z && int_le z (pos n)
