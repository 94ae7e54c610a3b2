-- Points of the plane whose coordinates are fractions with one denominator.
use Rattle.std.specs.Prelude.{ℤ, pos, ◌<ℤ◌}

-- the point X/D, Y/D
pub record Point : Type 0 where
  pub X : ℤ
  pub Y : ℤ
  pub D : ℤ
  pub positive : pos 0 <ℤ D
