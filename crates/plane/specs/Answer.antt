-- What an answer of the plane stands for.
use Rattle.std.specs.Prelude.{◌≡◌, ◌*ℤ◌, Some, None, Option}
use Rattle.lptype.specs.Meaning.{Value, finite, top}
use Rattle.algebra.specs.Point.{Point as Place}
use Rattle.limits.specs.Plane.{Rival}
use Rattle.lowest.specs.Reduced.{Reduced, LowestTerms}
use Rattle.plane.specs.declared.answer.PlaneAnswer.{PlaneAnswer}
use Rattle.plane.specs.declared.answer.PlaneAnswer.TheVariants.{NoPoint, Point}

-- none, or a rival at the point, whose numbers are reduced
abbrev pub Reads : PlaneAnswer → Option Rival → Type 0
Reads NoPoint None = Unit {0}
Reads NoPoint (Some r) = ⊥
Reads (Point s) None = ⊥
Reads (Point s) (Some r) = Reduced s.x s.y s.d × (s.x *ℤ r.point.D ≡ r.point.X *ℤ s.d) × (s.y *ℤ r.point.D ≡ r.point.Y *ℤ s.d)

-- the answer tells the value
abbrev pub Tells : Value Place → PlaneAnswer → Type 0
Tells top NoPoint = Unit {0}
Tells top (Point s) = ⊥
Tells (finite s) NoPoint = ⊥
Tells (finite s) (Point t) = LowestTerms s.X s.Y s.D t.x t.y t.d
