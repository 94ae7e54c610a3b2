-- The line that is printed for the answer of each problem.
use Rattle.std.specs.Prelude.{ℕ, List, [], ◌∷◌, ◌++◌, ℤ, codes, decimal}
use Rattle.std.specs.Fmt.{signed_decimal}
use Rattle.bounds.specs.declared.answer.BoundsAnswer.{BoundsAnswer}
use Rattle.bounds.specs.declared.answer.BoundsAnswer.TheVariants as bounds
use Rattle.disc.specs.declared.answer.DiscAnswer.{DiscAnswer}
use Rattle.disc.specs.declared.answer.DiscAnswer.TheVariants as disc
use Rattle.plane.specs.declared.answer.PlaneAnswer.{PlaneAnswer}
use Rattle.plane.specs.declared.answer.PlaneAnswer.TheVariants as plane

-- the answer that holds no point
abbrev pub empty_line : ℕ → List ℕ
empty_line line = codes "empty," ++ (decimal line ++ (10 ∷ []))

-- a box: west, east, south and north
abbrev pub box_line : ℕ → ℤ → ℤ → ℤ → ℤ → List ℕ
box_line line w e s n =
    codes "box," ++ (decimal line ++ (codes "," ++ (signed_decimal w ++ (codes "," ++ (signed_decimal e ++ (codes "," ++ (signed_decimal s ++ (codes "," ++ (signed_decimal n ++ (10 ∷ []))))))))))

abbrev pub bounds_shown : BoundsAnswer → ℕ → List ℕ
bounds_shown bounds.Empty line = empty_line line
bounds_shown (bounds.Sides w e s n) line = box_line line w e s n

-- three numbers of a point x/d, y/d, after the number of the line
abbrev pub point_numbers : ℕ → ℤ → ℤ → ℤ → List ℕ
point_numbers line x y d = decimal line ++ (codes "," ++ (signed_decimal x ++ (codes "," ++ (signed_decimal y ++ (codes "," ++ (signed_decimal d ++ (10 ∷ [])))))))

abbrev pub disc_shown : DiscAnswer → ℕ → List ℕ
disc_shown disc.Empty line = empty_line line
disc_shown (disc.Centre z) line = codes "disc," ++ point_numbers line z.x z.y z.d

abbrev pub plane_shown : PlaneAnswer → ℕ → List ℕ
plane_shown plane.NoPoint line = codes "none," ++ (decimal line ++ (10 ∷ []))
plane_shown (plane.Point z) line = codes "plane," ++ point_numbers line z.x z.y z.d
