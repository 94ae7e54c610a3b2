use Rattle.std.proofs.Common.{◌≡◌, ◌*◌, true, ℤ, ◌*ℤ◌, ap, ◌∙◌, w32, w64, to_z, of_z}
use Rattle.rows.specs.Range.{within}
use Rattle.limits.specs.Forms.{at}
use Rattle.algebra.proofs.Computed.{Val, val_of, through, val_mul, val_fits, small_add, small_mul}
use Rattle.limits.proofs.Sizes.{within_small}
use Rattle.vertices.specs.Vertices.{point, form}
use Rattle.vertices.specs.declared.vertex.Vertex.{Vertex}
use Rattle.vertices.proofs.vertex.Vertex.crossed.Goals as goal

module _ (s t : Vertex) (u v : ℤ) (p : within 1000 u ≡ true) (q : within 1000 v ≡ true) where
  -- the factors as they are passed
  passed : at (form (to_z w32 (of_z w32 u)) (to_z w32 (of_z w32 v))) (point s) ≡ at (form u v) (point s)
  passed = ap (λ (n : ℤ). at (form n (to_z w32 (of_z w32 v))) (point s)) (val_of w32 (within_small 1000 u p) tt).is ∙ ap (λ (n : ℤ). at (form u n) (point s)) (val_of w32 (within_small 1000 v q) tt).is

  product : (r : ℤ) → r ≡ at (form (to_z w32 (of_z w32 u)) (to_z w32 (of_z w32 v))) (point s) → Val (4000000000000 * 2000000) (to_z w64 (of_z w64 r) *ℤ to_z w64 (of_z w64 t.d)) (at (form u v) (point s) *ℤ t.d)
  product r e =
      let z = small_add (small_mul (within_small 1000 u p) (within_small 2000000000 s.x s.xbound)) (small_mul (within_small 1000 v q) (within_small 2000000000 s.y s.ybound)) in
      val_mul (through w64 (record { is = e ∙ passed; size = z }) tt) (val_of w64 (within_small 2000000 t.d t.dbound) tt)

pub overflow_mul-result : goal.overflow_mul-result
overflow_mul-result c =
    val_fits w64 (product c.args.self c.args.other c.form.inside.u c.form.inside.v c.form.invariant.0 c.form.invariant.1 c.scaled.result c.scaled.ensures) tt

pub returns : goal.returns
returns c =
    (through w64 (product c.args.self c.args.other c.form.inside.u c.form.inside.v c.form.invariant.0 c.form.invariant.1 c.scaled.result c.scaled.ensures) tt).is
    ∙ ap (λ f. at f (point c.args.self) *ℤ c.args.other.d) c.form.view_is
