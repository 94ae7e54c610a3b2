-- Which rows are points.
use Rattle.std.specs.Prelude.{Bool, ◌&&◌, ℤ, pos, negsuc, ◌==◌, int_le, unsigned_abs}

-- within 10,000 of 0
abbrev pub near : ℤ → Bool
near n = int_le (negsuc 9999) n && int_le n (pos 10000)

-- a row is a point, a metres east and b metres north; c is not used and is 0
abbrev pub admits_point : ℤ → ℤ → ℤ → Bool
admits_point a b c = near a && near b && unsigned_abs c == 0
