-- What an answer of the disc stands for.
use Rattle.std.specs.Prelude.{◌≡◌, ◌*ℤ◌, Some, None, Option}
use Rattle.circles.specs.Discs.{DiscRival, empty_disc, disc}
use Rattle.lowest.specs.Reduced.{Reduced}
use Rattle.disc.specs.declared.answer.DiscAnswer.{DiscAnswer}
use Rattle.disc.specs.declared.answer.DiscAnswer.TheVariants.{Empty, Centre}

-- an answer stands for the empty disc, or, in lowest terms with d above 0, for a disc round the centre x/d, y/d, and never for none
abbrev pub Reads : DiscAnswer → Option DiscRival → Type 0
Reads Empty None = ⊥
Reads Empty (Some empty_disc) = Unit {0}
Reads Empty (Some (disc c)) = ⊥
Reads (Centre p) None = ⊥
Reads (Centre p) (Some empty_disc) = ⊥
Reads (Centre p) (Some (disc c)) = Reduced p.x p.y p.d × (c.X *ℤ p.d ≡ p.x *ℤ c.D) × (c.Y *ℤ p.d ≡ p.y *ℤ c.D)
