use Rattle.std.proofs.lemmas.Nat.Gcd.{IsGcd-from_zero, IsGcd-from_mod}
use Rattle.lowest.proofs.reduce.gcd.Goals as goal

pub loop-small-preserved : goal.loop-small-preserved
loop-small-preserved c g h = c.loop-small.invariant g (IsGcd-from_mod _ _ g h)

pub returns : goal.returns
returns c = c.loop-small.invariant _ (IsGcd-from_zero _ _ c.loop-small-test.false)
