use Rattle.std.proofs.Common.{◌≡◌, ℕ, true, length, rules, tests}
use Rattle.std.proofs.lemmas.Iterator.{cases_from_all, YieldsList-from_range}
use Rattle.rows.proofs.Placing.{decides_below}
use Rattle.bounds.specs.Sides.{needed_at}
use Rattle.bounds.proofs.sides.all_needed.Goals as goal

pub returns : goal.returns
returns c =
    let F = c.args.list.now in
    let P = λ (i : ℕ). needed_at F i ≡ true in
    decides_below P (length F) c.all.result (cases_from_all _ _ _ P (λ i. P i → ⊥) c.all.ensures.ran (YieldsList-from_range 0 (length F) (length F) (cc) (search rules)) (λ x q k. search (rules, tests)) (λ x q k. search (rules, tests)))
