use Rattle.std.proofs.Common.{◌≡◌, ◌*◌, ◌^◌, true, ℤ, ◌*ℤ◌, w32, w64, SFits, to_z, of_z}
use mir.Val.{hbits}
use Rattle.rows.specs.Range.{within}
use Rattle.algebra.proofs.Computed.{Val, val_of, val_read, through, val_mul, val_add, val_fits}
use Rattle.limits.proofs.Sizes.{val_after, within_small}
use Rattle.vertices.proofs.vertex.Vertex.scaled.Goals as goal

-- a factor as one of 64 bits, times a number of the point
product : (u r x : ℤ) → SFits w32 u → r ≡ to_z w32 (of_z w32 u) → within 2000000000 x ≡ true → Val (2 ^ hbits w32 * 2000000000) (to_z w64 (of_z w64 r) *ℤ to_z w64 (of_z w64 x)) (u *ℤ x)
product u r x f e b = val_mul (through w64 (val_after e (val_read f)) tt) (val_of w64 (within_small 2000000000 x b) tt)

pub overflow_mul-result-2 : goal.overflow_mul-result-2
overflow_mul-result-2 c = val_fits w64 (product c.args.v c.from-2.result c.args.self.y c.ranges.v c.from-2.ensures c.args.self.ybound) tt

pub overflow_add-result : goal.overflow_add-result
overflow_add-result c = val_fits w64 (val_add
    (through w64 (product c.args.u c.from.result c.args.self.x c.ranges.u c.from.ensures c.args.self.xbound) tt)
    (through w64 (product c.args.v c.from-2.result c.args.self.y c.ranges.v c.from-2.ensures c.args.self.ybound) tt)) tt

pub returns : goal.returns
returns c = (through w64 (val_add
    (through w64 (product c.args.u c.from.result c.args.self.x c.ranges.u c.from.ensures c.args.self.xbound) tt)
    (through w64 (product c.args.v c.from-2.result c.args.self.y c.ranges.v c.from-2.ensures c.args.self.ybound) tt)) tt).is
