use Rattle.std.proofs.Common.{◌≡◌, ◌-◌, length}
use Rattle.walk.specs.Shuffling.{mixed}
use Rattle.walk.proofs.shuffling.mix.Given as goal

abbrev pub invariant-loop-i : goal.invariant-loop-i
invariant-loop-i l = mixed (l.i - 1) l.state l.order ≡ mixed (length l.initial.order - 1) l.initial.state l.initial.order
