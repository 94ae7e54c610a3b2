-- The crossing of two lines as the code has it: three numbers, or none.
use Rattle.std.specs.Prelude.{◌≡◌, true, cond, ℤ, pos, neg_ℤ, Some, None, Option, int_lt}
use Rattle.rows.specs.declared.row.Constraint.{Constraint}
use Rattle.limits.specs.Crossings.{cramer_x, cramer_y, cramer_d}
use Rattle.rows.specs.Range.{within}

-- the numbers of a limit are as small as those of an admitted row
pub record Bounded (g : Constraint) : Type 0 where
  pub a_small : within 1000 g.a ≡ true
  pub b_small : within 1000 g.b ≡ true
  pub c_small : within 1000000 g.c ≡ true

-- x, y, d with d above 0, or none where d is 0
abbrev pub upright : ℤ → ℤ → ℤ → Option (ℤ × ℤ × ℤ)
upright x y d = cond (int_lt (pos 0) d) (Some (x, y, d)) (cond (int_lt d (pos 0)) (Some (neg_ℤ x, neg_ℤ y, neg_ℤ d)) None)

-- X, Y, D of the crossing of two lines by Cramer's rule, or none where they are parallel
abbrev pub crossing_numbers : Constraint → Constraint → Option (ℤ × ℤ × ℤ)
crossing_numbers g h = upright (cramer_x g h) (cramer_y g h) (cramer_d g h)
