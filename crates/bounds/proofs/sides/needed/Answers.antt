use Rattle.std.proofs.Common.{◌+◌, get_or, take, drop, ap, ◌∙◌}
use Rattle.std.proofs.lemmas.List.{take_rest}
use Rattle.rows.specs.Row.{no_row}
use Rattle.bounds.specs.Sides.{with_points, misses}
use Rattle.bounds.proofs.Around.{around_more}
use Rattle.bounds.proofs.sides.needed.Goals as goal

pub returns : goal.returns
returns c =
    let F = c.args.list.now in
    let i = c.args.i in
    c.misses.ensures ∙ ap (λ k. misses k (get_or F i no_row.constraint)) (c.with_points-others.ensures ∙ ap (with_points c.around.result) (take_rest F (i + 1)) ∙ ap (λ k. with_points k (drop (i + 1) F)) c.around.ensures ∙ around_more (take i F) (drop (i + 1) F))
