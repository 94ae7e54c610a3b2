use Rattle.std.proofs.Common.{ℕ}
use Rattle.std.specs.Int.{IsGcd}
use Rattle.lowest.proofs.reduce.gcd.Given as goal

-- the greatest common divisor of what is left is that of the two numbers
abbrev pub invariant-loop-small : goal.invariant-loop-small
invariant-loop-small l = (g : ℕ) → IsGcd l.large l.small g → IsGcd l.initial.large l.initial.small g

abbrev pub decreases-loop-small : goal.decreases-loop-small
decreases-loop-small l = l.small
