use Rattle.std.proofs.Common.{◌+◌, drop, sym, ap, ◌∙◌}
use Rattle.limits.specs.Crossings.{crossings_with}
use Rattle.limits.specs.Least.{best}
use Rattle.plane.specs.Searched.{found}
use Rattle.plane.proofs.Lines.{with_more, with_all}
use Rattle.plane.proofs.search.Search.with_line.Goals as goal

pub loop-h-preserved : goal.loop-h-preserved
loop-h-preserved c =
    let fs = c.args.self.now.forms in
    let G = c.args.self.now.limits.items in
    let H = c.args.others.now in
    let i = c.loop-h.h-index in
    ap (λ v. best fs G v (crossings_with c.args.g (drop (i + 1) H))) c.with_crossing-least.ensures
    ∙ sym (with_more fs G (found c.loop-h.least) c.args.g H i c.loop-h-test.true) ∙ c.loop-h.invariant

pub returns : goal.returns
returns c = sym (with_all c.args.self.now.forms c.args.self.now.limits.items (found c.loop-h.least) c.args.g c.args.others.now c.loop-h.h-index c.loop-h-test.false) ∙ c.loop-h.invariant
