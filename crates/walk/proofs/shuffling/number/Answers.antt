use Rattle.std.proofs.Common.{length, ◌∙◌, arith}
use Rattle.std.specs.List.{range_with_len}
use Rattle.std.proofs.lemmas.List.FromFn.{fill_by_all}
use Rattle.std.proofs.lemmas.List.{map-id}
use Rattle.walk.proofs.shuffling.number.Goals as goal

pub returns : goal.returns
returns c =
    let n = length c.args.order.now in
    fill_by_all (λ k. k) c.loop-i.order n 0 (omega arith) (λ k l. c.loop-i.invariant k (omega arith)) ∙ map-id (range_with_len 0 n)
