-- A bound on the size of a whole number.
use Rattle.std.specs.Prelude.{ℕ, ◌≤◌, ℤ, unsigned_abs}

-- z is at most n, and at least −n
pub record Small (n : ℕ) (z : ℤ) : Type 0 where
  pub small : unsigned_abs z ≤ n
