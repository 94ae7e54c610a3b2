use Rattle.std.proofs.Common.{pos, sym, ◌∙◌, arith, w64}
use Rattle.algebra.proofs.Computed.{val_lit, val_mul, val_result, through, val_small, small_more}
use Rattle.circles.proofs.Deciding.{turn_apart}
use Rattle.disc.proofs.triangle.Triangle.circumcentre.Goals as goal

pub invariant_of-result : goal.invariant_of-result
invariant_of-result c =
    let x = val_result w64 c.centre_x.ensures.value c.centre_x.ensures.bound tt in
    let y = val_result w64 c.centre_y.ensures.value c.centre_y.ensures.bound tt in
    let d = through w64 (val_mul (val_lit (pos 2)) (val_result w64 c.turn.ensures.value c.turn.ensures.bound tt)) tt in
    record {
      east = small_more 100000000000000 (val_small x) (omega arith);
      north = small_more 100000000000000 (val_small y) (omega arith);
      under = small_more 100000000000000 (val_small d) (omega arith);
      nonzero = λ e. turn_apart c.args.self.p.at c.args.self.q.at c.args.self.r.at c.requires (sym d.is ∙ e);
    }
