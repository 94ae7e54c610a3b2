-- Convex sets of points, with no division: closed under multiples and sums of the three numbers of a point.
use Rattle.std.proofs.Common.{ℤ, pos, ◌+ℤ◌, ◌-ℤ◌, ◌*ℤ◌, ◌<ℤ◌}
use Rattle.algebra.specs.Point.{Point}
use Rattle.algebra.proofs.Order.{mul_pos, add_pos, le_of_lt}

-- the same point by other numbers
abbrev pub scaled : (k : ℤ) → pos 0 <ℤ k → Point → Point
scaled k h z = record { X = k *ℤ z.X; Y = k *ℤ z.Y; D = k *ℤ z.D; positive = mul_pos h z.positive }

-- a point between two
abbrev pub summed : Point → Point → Point
summed z w = record { X = z.X +ℤ w.X; Y = z.Y +ℤ w.Y; D = z.D +ℤ w.D; positive = add_pos z.positive (le_of_lt w.positive) }

pub record Convex (C : Point → Type 0) : Type 0 where
  pub scale : (k : ℤ) (h : pos 0 <ℤ k) (z : Point) → C z → C (scaled k h z)
  pub sum : (z w : Point) → C z → C w → C (summed z w)

-- from s to t, times both denominators

abbrev pub gapX : Point → Point → ℤ
gapX s t = s.D *ℤ t.X -ℤ t.D *ℤ s.X

abbrev pub gapY : Point → Point → ℤ
gapY s t = s.D *ℤ t.Y -ℤ t.D *ℤ s.Y
