use Rattle.std.proofs.Common.{◌-◌, length, drop, sym, ap, ◌∙◌}
use Rattle.std.proofs.ByRecursion.{All-take, All-drop}
use Rattle.limits.specs.Crossings.{crossings}
use Rattle.limits.specs.Least.{best}
use Rattle.vertices.specs.Crossed.{Bounded}
use Rattle.plane.specs.Searched.{found}
use Rattle.plane.proofs.Lines.{others, lines_more, lines_all}
use Rattle.plane.proofs.search.Search.least.Goals as goal

pub loop-lines-preserved : goal.loop-lines-preserved
loop-lines-preserved c =
    let fs = c.args.self.now.forms in
    let G = c.args.self.now.limits.items in
    let H = c.loop-lines.lines.now in (
      All-take Bounded (length H - 1) (drop 1 H) (All-drop Bounded 1 H c.loop-lines.invariant.0),
      ap (λ v. best fs G v (crossings (others H))) c.with_line-least.ensures ∙ sym (lines_more fs G (found c.loop-lines.least) H c.in-len1-up.len_at_least) ∙ c.loop-lines.invariant.1,
    )

pub returns : goal.returns
returns c = sym (lines_all c.args.self.now.forms c.args.self.now.limits.items (found c.loop-lines.least) c.loop-lines.lines.now c.in_default.len_below) ∙ c.loop-lines.invariant.1
