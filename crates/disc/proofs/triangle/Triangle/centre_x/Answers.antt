use Rattle.algebra.proofs.Computed.{val_small}
use Rattle.disc.proofs.Products.{lever, lever_fits, two_fit, three_fit, sum_of_three}
use Rattle.disc.proofs.triangle.Triangle.centre_x.Goals as goal

pub overflow_mul-result : goal.overflow_mul-result
overflow_mul-result c = lever_fits c.square.ensures.value c.square.ensures.bound c.to.ensures.y c.to.result.north

pub overflow_mul-result-2 : goal.overflow_mul-result-2
overflow_mul-result-2 c = lever_fits c.square-2.ensures.value c.square-2.ensures.bound c.to-2.ensures.y c.to-2.result.north

pub overflow_mul-result-3 : goal.overflow_mul-result-3
overflow_mul-result-3 c = lever_fits c.square-3.ensures.value c.square-3.ensures.bound c.to-3.ensures.y c.to-3.result.north

pub overflow_add-result : goal.overflow_add-result
overflow_add-result c =
    let one = lever c.square.ensures.value c.square.ensures.bound c.to.ensures.y c.to.result.north in
    let two = lever c.square-2.ensures.value c.square-2.ensures.bound c.to-2.ensures.y c.to-2.result.north in
    two_fit one two tt

pub overflow_add-result-2 : goal.overflow_add-result-2
overflow_add-result-2 c =
    let one = lever c.square.ensures.value c.square.ensures.bound c.to.ensures.y c.to.result.north in
    let two = lever c.square-2.ensures.value c.square-2.ensures.bound c.to-2.ensures.y c.to-2.result.north in
    let three = lever c.square-3.ensures.value c.square-3.ensures.bound c.to-3.ensures.y c.to-3.result.north in
    three_fit one two tt three tt

pub returns : goal.returns
returns c =
    let one = lever c.square.ensures.value c.square.ensures.bound c.to.ensures.y c.to.result.north in
    let two = lever c.square-2.ensures.value c.square-2.ensures.bound c.to-2.ensures.y c.to-2.result.north in
    let three = lever c.square-3.ensures.value c.square-3.ensures.bound c.to-3.ensures.y c.to-3.result.north in
    let r = sum_of_three one two tt three tt in
    record { value = r.is; bound = val_small r }
