use Rattle.std.proofs.Common.{ℤ, ◌+ℤ◌, ◌∙◌, w64}
use Rattle.algebra.proofs.Computed.{val_result}
use Rattle.circles.specs.Angles.{weighted}
use Rattle.disc.proofs.Products.{three_fit, sum_of_three}
use Rattle.disc.proofs.triangle.Triangle.power.Goals as goal

pub overflow_add-result-2 : goal.overflow_add-result-2
overflow_add-result-2 c =
    let one = val_result w64 c.weighted.ensures.value c.weighted.ensures.bound tt in
    let two = val_result w64 c.weighted-2.ensures.value c.weighted-2.ensures.bound tt in
    let three = val_result w64 c.weighted-3.ensures.value c.weighted-3.ensures.bound tt in
    three_fit one two tt three tt

-- the power by the coordinates of the three vectors
abbrev at : ℤ → ℤ → ℤ → ℤ → ℤ → ℤ → ℤ
at ux uy vx vy tx ty = weighted ux uy vx vy tx ty +ℤ weighted vx vy tx ty ux uy +ℤ weighted tx ty ux uy vx vy

pub returns : goal.returns
returns c =
    let one = val_result w64 c.weighted.ensures.value c.weighted.ensures.bound tt in
    let two = val_result w64 c.weighted-2.ensures.value c.weighted-2.ensures.bound tt in
    let three = val_result w64 c.weighted-3.ensures.value c.weighted-3.ensures.bound tt in
    (sum_of_three one two tt three tt).is
    ∙ (λ i. at (c.to-u.ensures.x i) (c.to-u.ensures.y i) (c.to-v.ensures.x i) (c.to-v.ensures.y i) (c.to-t.ensures.x i) (c.to-t.ensures.y i))
