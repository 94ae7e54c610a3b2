use Rattle.std.proofs.Common.{◌≡◌, drop}
use Rattle.limits.specs.Crossings.{crossings_with}
use Rattle.limits.specs.Least.{best}
use Rattle.plane.specs.Searched.{found}
use Rattle.plane.proofs.search.Search.with_line.Given as goal

-- the lines that are left complete the search
abbrev pub invariant-loop-h : goal.invariant-loop-h
invariant-loop-h l = best l.self.forms l.self.limits.items (found l.least) (crossings_with l.g (drop l.h-index l.others)) ≡ best l.self.forms l.self.limits.items (found l.initial.least) (crossings_with l.g l.others)
