-- The numbers of a point in lowest terms.
use Rattle.std.specs.Prelude.{◌≡◌, ℕ, ◌≤◌, ℤ, pos, ◌*ℤ◌, ◌<ℤ◌, unsigned_abs}
use Rattle.std.specs.Int.{◌∣◌}

-- g is above 0 and the greatest common divisor of the three numbers
pub record Divisor (x y d g : ℤ) : Type 0 where
  pub above : pos 0 <ℤ g
  pub of_x : unsigned_abs g ∣ unsigned_abs x
  pub of_y : unsigned_abs g ∣ unsigned_abs y
  pub of_d : unsigned_abs g ∣ unsigned_abs d
  pub greatest : (k : ℕ) → k ∣ unsigned_abs x → k ∣ unsigned_abs y → k ∣ unsigned_abs d → k ∣ unsigned_abs g

-- d is above 0, and the three numbers have no common divisor above 1
pub record Reduced (x y d : ℤ) : Type 0 where
  pub positive : pos 0 <ℤ d
  pub coprime : (k : ℕ) → k ∣ unsigned_abs x → k ∣ unsigned_abs y → k ∣ unsigned_abs d → k ≤ 1

-- x'/d', y'/d' is the point x/d, y/d in lowest terms
pub record LowestTerms (x y d x' y' d' : ℤ) : Type 0 where
  pub same_x : x' *ℤ d ≡ x *ℤ d'
  pub same_y : y' *ℤ d ≡ y *ℤ d'
  pub reduced : Reduced x' y' d'
