use Rattle.std.proofs.Common.{w64}
use Rattle.algebra.proofs.Computed.{val_sub, through, val_fits, val_small}
use Rattle.disc.proofs.Products.{product}
use Rattle.disc.proofs.vector.Vector.cross.Goals as goal

pub overflow_sub-result : goal.overflow_sub-result
overflow_sub-result c = val_fits w64 (val_sub (product c.args.self.east c.args.other.north) (product c.args.self.north c.args.other.east)) tt

pub returns : goal.returns
returns c =
    let r = through w64 (val_sub (product c.args.self.east c.args.other.north) (product c.args.self.north c.args.other.east)) tt in
    record { value = r.is; bound = val_small r }
