use Rattle.std.proofs.Common.{true, false, ap, ◌∙◌}
use Rattle.limits.specs.Least.{improved}
use Rattle.plane.specs.Searched.{found}
use Rattle.vertices.specs.Vertices.{point}
use Rattle.plane.proofs.Lines.{improved_if}
use Rattle.plane.proofs.search.Search.improved.Goals as goal

pub returns-then-keeps_all : goal.returns-then-keeps_all
returns-then-keeps_all c =
    let fs = c.args.self.now.forms in
    let v = found c.args.before in
    let z = point c.args.one in
    c.better.ensures ∙ improved_if fs c.deref.result.now v z true c.if-keeps_all.ensures ∙ ap (λ G. improved fs G v z) c.deref.ensures.0

pub returns-else-keeps_all : goal.returns-else-keeps_all
returns-else-keeps_all c =
    let fs = c.args.self.now.forms in
    let v = found c.args.before in
    let z = point c.args.one in
    improved_if fs c.deref.result.now v z false c.if-keeps_all.ensures ∙ ap (λ G. improved fs G v z) c.deref.ensures.0
