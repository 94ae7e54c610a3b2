use Rattle.std.proofs.Common.{get_or, pos, ap, ◌∙◌, arith, length-append, w64, SFits, rules}
use Rattle.std.specs.Int.{int_min, int_max}
use Rattle.std.proofs.lemmas.Int.{to_z-of_z}
use Rattle.rows.specs.List.{positions}
use Rattle.rows.specs.Numbers.{numbers_in}
use Rattle.rows.proofs.Inserting.{put_more}
use Rattle.rows.proofs.Rise.{ascending_from, positions_rise}
use Rattle.rows.proofs.positions.Positions.with.Goals as goal

pub loop-p-preserved : goal.loop-p-preserved
loop-p-preserved c =
    let s = positions c.args.self.now in
    let i = c.loop-p.p-index in
    let p = get_or c.as_slice-p-items.result.now i (pos 0) in
    let f : SFits w64 p = search rules in
    let fm : SFits w64 c.min.result = search rules in
    let fx : SFits w64 c.max-next.result = search rules in
    let e = to_z-of_z w64 p f ∙ ap (λ l. get_or l i (pos 0)) c.as_slice-p-items.ensures in
    let m = to_z-of_z w64 c.min.result fm ∙ c.min.ensures.value ∙ ap (int_min _) e in
    let x = to_z-of_z w64 c.max-next.result fx ∙ c.max-next.ensures.value ∙ ap (int_max _) e in
    let step = put_more (numbers_in c.loop-p.list) s i _ (search rules) (ascending_from s (positions_rise c.args.self.now)) in
    (rw (c.push.ensures, m, x) (step ∙ c.loop-p.invariant.0), rw c.push.ensures (simp length-append (omega (arith, c.loop-p.invariant.1))))
