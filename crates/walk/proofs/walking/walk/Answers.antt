use Rattle.std.proofs.Common.{◌≡◌, ℕ, ◌-◌, ◌<◌, length, drop, pos, sym, refl, ◌∙◌, subst, arith}
use Rattle.std.proofs.lemmas.List.{take_rest}
use Rattle.rows.specs.List.{positions}
use Rattle.walk.specs.Steps.{StepAnswer, next_place}
use Rattle.walk.specs.Walks.{Walked, begin}
use Rattle.walk.proofs.Walks.{left, place_below, underway, walk_law, Turned, turned, left_next, inside_left, first_left, place_left}
use Rattle.walk.proofs.walking.walk.Given as given
use Rattle.walk.proofs.walking.walk.Goals as goal

pub loop-left-init : goal.loop-left-init
loop-left-init g c =
    let m = g.P.Problem.meaning c.args.problem.now in
    let ps = positions c.args.basis.now in
    record { place = 0; from_there = refl; walked = subst (λ k. Walked m c.args.rows.now c.args.order.now ps 0 ps k.tests k.exchanges) (sym c.none-counts.ensures) begin }

pub visit-step-requires : goal.visit-step-requires
visit-step-requires g c =
    let m = g.P.Problem.meaning c.args.problem.now in
    let laws = g.met.P.Problem.lawful c.args.problem.now in
    let rows = c.args.rows.now in
    let order = c.args.order.now in
    let start = positions c.args.basis.now in
    let v = c.loop-left.invariant in
    let u = underway m laws rows order start c.requires v.walked in
    let inside = inside_left order c.loop-left.left.now v.place v.from_there c.in-len1-up.len_at_least in
    let first = first_left order c.loop-left.left.now v.place v.from_there in
    record {
      admitted = c.requires.admitted;
      few = c.requires.few;
      named = u.named;
      stands = u.stands;
      there = subst (λ (k : ℕ). k < length rows) (sym first) (place_below m laws rows order start c.requires v.place inside);
    }

turn : (g : given.Over) (c : goal.After-left-left g) →
    let v = c.loop-left.invariant in
    Turned (g.P.Problem.meaning c.args.problem.now) c.args.rows.now c.args.order.now (positions c.args.basis.now)
    v.place (next_place c.visit-step.result v.place) c.after-counts.result (positions c.loop-left.basis) (positions c.visit-step.new.basis)
turn g c =
    let m = g.P.Problem.meaning c.args.problem.now in
    let rows = c.args.rows.now in
    let order = c.args.order.now in
    let rest = c.loop-left.left.now in
    let v = c.loop-left.invariant in
    let ps = positions c.loop-left.basis in
    let after = positions c.visit-step.new.basis in
    let inside = inside_left order rest v.place v.from_there c.in-len1-up.len_at_least in
    let answer = subst (λ (k : ℕ). StepAnswer m rows ps (pos k) after c.visit-step.result) (first_left order rest v.place v.from_there) c.visit-step.ensures in
    turned m (g.met.P.Problem.lawful c.args.problem.now) rows order (positions c.args.basis.now) c.requires
    v.place (next_place c.visit-step.result v.place) c.loop-left.counts c.after-counts.result ps after c.visit-step.result
    v.walked inside answer c.after-counts.ensures refl

-- what is left after the step
rest_after : (g : given.Over) (c : goal.After-left-left g) → c.left-left.result.now ≡ drop (next_place c.visit-step.result c.loop-left.invariant.place) c.args.order.now
rest_after g c =
    let rest = c.loop-left.left.now in
    let v = c.loop-left.invariant in
    c.left-left.ensures ∙ left_next c.args.order.now rest _ v.place v.from_there (take_rest rest 1) c.visit-step.result

pub loop-left-smaller : goal.loop-left-smaller
loop-left-smaller g c =
    let m = g.P.Problem.meaning c.args.problem.now in
    let laws = g.met.P.Problem.lawful c.args.problem.now in
    let rows = c.args.rows.now in
    let order = c.args.order.now in
    let start = positions c.args.basis.now in
    let v = c.loop-left.invariant in
    let t = turn g c in
    let here = place_left order c.loop-left.left.now v.place v.from_there (underway m laws rows order start c.requires v.walked).inside in
    let there = place_left order c.left-left.result.now _ (rest_after g c) (underway m laws rows order start c.requires t.walked).inside in
    subst (λ (i : ℕ). left m rows order (length order - length c.left-left.result.now) (positions c.visit-step.new.basis) < left m rows order i (positions c.loop-left.basis)) (sym here)
    (subst (λ (i : ℕ). left m rows order i (positions c.visit-step.new.basis) < left m rows order v.place (positions c.loop-left.basis)) (sym there) t.less)

pub loop-left-preserved : goal.loop-left-preserved
loop-left-preserved g c = record { place = next_place c.visit-step.result c.loop-left.invariant.place; from_there = rest_after g c; walked = (turn g c).walked }

pub returns : goal.returns
returns g c =
    let m = g.P.Problem.meaning c.args.problem.now in
    let laws = g.met.P.Problem.lawful c.args.problem.now in
    let rows = c.args.rows.now in
    let order = c.args.order.now in
    let start = positions c.args.basis.now in
    let k = c.loop-left.counts in
    let v = c.loop-left.invariant in
    let here = place_left order c.loop-left.left.now v.place v.from_there (underway m laws rows order start c.requires v.walked).inside in
    let e : v.place ≡ length order = omega (arith, here, c.in_default.len_below) in
    record {
      ends = subst (λ (i : ℕ). Walked m rows order start i (positions c.loop-left.basis) k.tests k.exchanges) e v.walked;
      law = walk_law m laws rows order start c.requires;
    }
