use Rattle.std.proofs.Common.{◌≡◌, length}
use Rattle.std.specs.List.{AllByRecursion}
use Rattle.lptype.specs.Meaning.{top}
use Rattle.limits.specs.Crossings.{crossings}
use Rattle.limits.specs.Least.{best}
use Rattle.vertices.specs.Crossed.{Bounded}
use Rattle.plane.specs.Searched.{found}
use Rattle.plane.proofs.search.Search.least.Given as goal

-- the lines that are left complete the search
abbrev pub invariant-loop-lines : goal.invariant-loop-lines
invariant-loop-lines l = AllByRecursion Bounded l.lines × (best l.self.forms l.self.limits.items (found l.least) (crossings l.lines) ≡ best l.self.forms l.self.limits.items top (crossings l.self.limits.items))

abbrev pub decreases-loop-lines : goal.decreases-loop-lines
decreases-loop-lines l = length l.lines
