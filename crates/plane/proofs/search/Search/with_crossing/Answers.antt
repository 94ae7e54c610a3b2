use Rattle.std.proofs.Common.{◌≡◌, List, Some, None, Option, MatchOption, sym, ap, ◌∙◌, rules, tests}
use Rattle.rows.specs.declared.row.Constraint.{Constraint}
use Rattle.limits.specs.Forms.{Form}
use Rattle.limits.specs.Least.{improved, best}
use Rattle.limits.proofs.Best.{best_none, best_single}
use Rattle.vertices.specs.Vertices.{point, listed}
use Rattle.vertices.specs.declared.vertex.Vertex.{Vertex}
use Rattle.plane.specs.Searched.{found}
use Rattle.plane.proofs.search.Search.with_crossing.Goals as goal

-- what is found with one more point, or with none
with_listed : (fs : List Form) (G : List Constraint) (before o r : Option Vertex) {Q : Vertex → Type 0} → MatchOption o (r ≡ before) Q → ((one : Vertex) → Q one → found r ≡ improved fs G (found before) (point one)) → found r ≡ best fs G (found before) (listed o)
with_listed fs G before None r e q = ap found e ∙ sym (best_none fs G (found before))
with_listed fs G before (Some one) r e q = q one e ∙ sym (best_single fs G (found before) (point one))

pub returns : goal.returns
returns c =
    let fs = c.args.self.now.forms in
    let G = c.args.self.now.limits.items in
    with_listed fs G c.args.before c.of_lines.result c.map_or.result c.map_or.ensures (λ one q. search (rules, tests)) ∙ ap (best fs G (found c.args.before)) c.of_lines.ensures
