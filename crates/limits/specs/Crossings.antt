-- Limits, the points that keep them, and the crossings of their lines.
use Rattle.std.specs.Prelude.{ℕ, zero, suc, Bool, true, ◌&&◌, List, [], ◌∷◌, ◌++◌, ℤ, pos, negsuc, ◌+ℤ◌, ◌-ℤ◌, ◌*ℤ◌, neg_ℤ, ◌≤ℤ◌, ◌<ℤ◌, int_le}
use Rattle.std.proofs.Common.{zero-le, suc-le-suc, lt→ltb}
use Rattle.rows.specs.declared.row.Constraint.{Constraint}
use Rattle.lptype.specs.Meaning.{In}
use Rattle.algebra.specs.Point.{Point}

-- the point keeps the limit a·x + b·y ≤ c
abbrev pub Keeps : Point → Constraint → Type 0
Keeps z g = (g.a *ℤ z.X +ℤ g.b *ℤ z.Y) ≤ℤ (g.c *ℤ z.D)

-- the point keeps each limit of the list
abbrev pub KeepsEvery : Point → List Constraint → Type 0
KeepsEvery z G = (g : Constraint) → In g G → Keeps z g

-- whether the point keeps the limit
abbrev pub kept : Point → Constraint → Bool
kept z g = int_le (g.a *ℤ z.X +ℤ g.b *ℤ z.Y) (g.c *ℤ z.D)

-- whether it keeps each limit of the list
unfoldable pub all_kept : Point → List Constraint → Bool
all_kept z [] = true
all_kept z (g ∷ G) = kept z g && all_kept z G

-- X of the crossing X/D, Y/D of two lines, by Cramer's rule
abbrev pub cramer_x : Constraint → Constraint → ℤ
cramer_x g h = g.c *ℤ h.b -ℤ h.c *ℤ g.b

-- Y of the crossing
abbrev pub cramer_y : Constraint → Constraint → ℤ
cramer_y g h = g.a *ℤ h.c -ℤ h.a *ℤ g.c

-- D of the crossing: 0 where the lines are parallel
abbrev pub cramer_d : Constraint → Constraint → ℤ
cramer_d g h = g.a *ℤ h.b -ℤ h.a *ℤ g.b

-- a number above 0
pub above : (n : ℕ) → pos 0 <ℤ pos (suc n)
above n = record { lt = lt→ltb 0 (suc n) (suc-le-suc zero-le) }

-- the point x/d, y/d, or none where d is 0; its D is above 0
abbrev pub point_of : ℤ → ℤ → ℤ → List Point
point_of x y (pos zero) = []
point_of x y (pos (suc n)) = record { X = x; Y = y; D = pos (suc n); positive = above n } ∷ []
point_of x y (negsuc n) = record { X = neg_ℤ x; Y = neg_ℤ y; D = pos (suc n); positive = above n } ∷ []

-- the crossing of two lines, or none where they are parallel
abbrev pub crossing : Constraint → Constraint → List Point
crossing g h = point_of (cramer_x g h) (cramer_y g h) (cramer_d g h)

-- the crossings of the line g with those of the list
unfoldable pub crossings_with : Constraint → List Constraint → List Point
crossings_with g [] = []
crossings_with g (h ∷ H) = crossing g h ++ crossings_with g H

-- the crossings of any two lines of the list
unfoldable pub crossings : List Constraint → List Point
crossings [] = []
crossings (g ∷ G) = crossings_with g G ++ crossings G
