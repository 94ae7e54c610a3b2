use Rattle.std.proofs.Common.{◌≡◌, ℕ, List, length, sym, ap, ◌∙◌, subst, arith}
use Rattle.std.specs.List.{range_with_len}
use Rattle.std.proofs.lemmas.List.FromFn.{length-range_with_len}
use Rattle.walk.specs.Shuffling.{Permutes}
use Rattle.walk.proofs.Shuffles.{shuffled_permutes, shuffled_front, permuted_below, permuted_covers}
use Rattle.walk.proofs.shuffling.shuffle.Goals as goal

pub returns : goal.returns
returns c =
    let n = c.args.count in
    let s = c.args.seed in
    let xs = c.number.new.order in
    let l : length xs ≡ n = omega arith in
    let k = sym (length-range_with_len 0 _) ∙ ap length (sym c.number.ensures) ∙ l in
    let e = shuffled_front n s xs c.mix.new.order _ (c.number.ensures ∙ ap (range_with_len 0) k) c.mix.ensures in
    let p = subst (λ (ys : List ℕ). Permutes ys n) (sym e) (shuffled_permutes n s) in
    record { value = e; permutes = p; below = permuted_below _ n p; covers = permuted_covers _ n p }
