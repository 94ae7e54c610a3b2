use Rattle.std.proofs.Common.{w64}
use Rattle.algebra.proofs.Computed.{val_of, val_read, through, val_mul}
use Rattle.limits.proofs.Sizes.{val_after, within_small}
use Rattle.vertices.proofs.vertex.Vertex.over.Goals as goal

pub returns : goal.returns
returns c = (through w64 (val_mul (through w64 (val_after c.from.ensures (val_read c.ranges.c)) tt) (val_of w64 (within_small 2000000 c.args.self.d c.args.self.dbound) tt)) tt).is
