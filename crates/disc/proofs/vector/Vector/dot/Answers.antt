use Rattle.algebra.proofs.Computed.{val_small}
use Rattle.disc.proofs.Products.{product, two_fit, sum_of_two}
use Rattle.disc.proofs.vector.Vector.dot.Goals as goal

pub overflow_add-result : goal.overflow_add-result
overflow_add-result c = two_fit (product c.args.self.east c.args.other.east) (product c.args.self.north c.args.other.north) tt

pub returns : goal.returns
returns c =
    let r = sum_of_two (product c.args.self.east c.args.other.east) (product c.args.self.north c.args.other.north) tt in
    record { value = r.is; bound = val_small r }
