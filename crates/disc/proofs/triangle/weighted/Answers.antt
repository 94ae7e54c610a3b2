use Rattle.std.proofs.Common.{w64}
use Rattle.algebra.proofs.Computed.{val_result, val_mul, through, val_small}
use Rattle.disc.proofs.triangle.weighted.Goals as goal

pub returns : goal.returns
returns c =
    let r = through w64 (val_mul (val_result w64 c.square.ensures.value c.square.ensures.bound tt) (val_result w64 c.cross.ensures.value c.cross.ensures.bound tt)) tt in
    record { value = r.is; bound = val_small r }
