use Rattle.algebra.proofs.Computed.{val_small}
use Rattle.disc.proofs.Products.{lever, lever_fits, two_fit, three_fit, sum_of_three}
use Rattle.disc.proofs.triangle.Triangle.centre_y.Goals as goal

pub overflow_mul-result : goal.overflow_mul-result
overflow_mul-result c = lever_fits c.square.ensures.value c.square.ensures.bound c.to.ensures.x c.to.result.east

pub overflow_mul-result-2 : goal.overflow_mul-result-2
overflow_mul-result-2 c = lever_fits c.square-2.ensures.value c.square-2.ensures.bound c.to-2.ensures.x c.to-2.result.east

pub overflow_mul-result-3 : goal.overflow_mul-result-3
overflow_mul-result-3 c = lever_fits c.square-3.ensures.value c.square-3.ensures.bound c.to-3.ensures.x c.to-3.result.east

pub overflow_add-result : goal.overflow_add-result
overflow_add-result c =
    let one = lever c.square.ensures.value c.square.ensures.bound c.to.ensures.x c.to.result.east in
    let two = lever c.square-2.ensures.value c.square-2.ensures.bound c.to-2.ensures.x c.to-2.result.east in
    two_fit one two tt

pub overflow_add-result-2 : goal.overflow_add-result-2
overflow_add-result-2 c =
    let one = lever c.square.ensures.value c.square.ensures.bound c.to.ensures.x c.to.result.east in
    let two = lever c.square-2.ensures.value c.square-2.ensures.bound c.to-2.ensures.x c.to-2.result.east in
    let three = lever c.square-3.ensures.value c.square-3.ensures.bound c.to-3.ensures.x c.to-3.result.east in
    three_fit one two tt three tt

pub returns : goal.returns
returns c =
    let one = lever c.square.ensures.value c.square.ensures.bound c.to.ensures.x c.to.result.east in
    let two = lever c.square-2.ensures.value c.square-2.ensures.bound c.to-2.ensures.x c.to-2.result.east in
    let three = lever c.square-3.ensures.value c.square-3.ensures.bound c.to-3.ensures.x c.to-3.result.east in
    let r = sum_of_three one two tt three tt in
    record { value = r.is; bound = val_small r }
