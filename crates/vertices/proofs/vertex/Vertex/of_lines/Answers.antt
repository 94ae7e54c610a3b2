use Rattle.std.proofs.Common.{◌≡◌, [], ◌∷◌, ℤ, pos, ◌<ℤ◌, Some, sym, ap, ◌∙◌, subst, arith, w64, to_z, of_z}
use Rattle.rows.specs.declared.row.Constraint.{Constraint}
use Rattle.limits.specs.Crossings.{crossing, cramer_x, cramer_y, cramer_d}
use Rattle.limits.proofs.Cramer.{with_numbers, same_numbers}
use Rattle.algebra.proofs.Computed.{Val, val_of}
use Rattle.limits.proofs.Sizes.{computed_within}
use Rattle.vertices.specs.Crossed.{Bounded, crossing_numbers}
use Rattle.vertices.proofs.Numbers.{Upright, upright_some, cramer_x_small, cramer_y_small, cramer_d_small}
use Rattle.vertices.proofs.vertex.Vertex.of_lines.Goals as goal

module _ (g h : Constraint) (p : Bounded g) (q : Bounded h) (x y d : ℤ) (e : Some (x, y, d) ≡ crossing_numbers g h) where
  numbers : Upright (cramer_x g h) (cramer_y g h) (cramer_d g h) x y d
  numbers = upright_some (cramer_x g h) (cramer_y g h) (cramer_d g h) (cramer_x_small g h p q) (cramer_y_small g h p q) (cramer_d_small g h p q) x y d e

  x_read : Val 2000000000 (to_z w64 (of_z w64 x)) x
  x_read = val_of w64 numbers.x_small tt

  y_read : Val 2000000000 (to_z w64 (of_z w64 y)) y
  y_read = val_of w64 numbers.y_small tt

  d_read : Val 2000000 (to_z w64 (of_z w64 d)) d
  d_read = val_of w64 numbers.d_small tt

  d_above : pos 0 <ℤ to_z w64 (of_z w64 d)
  d_above = subst (λ (n : ℤ). pos 0 <ℤ n) (sym d_read.is) numbers.above

  lists : (k : pos 0 <ℤ to_z w64 (of_z w64 d)) → with_numbers (to_z w64 (of_z w64 x)) (to_z w64 (of_z w64 y)) (to_z w64 (of_z w64 d)) k ∷ [] ≡ crossing g h
  lists k = ap (λ z. z ∷ []) (same_numbers (to_z w64 (of_z w64 x)) (to_z w64 (of_z w64 y)) (to_z w64 (of_z w64 d)) x y d k numbers.above x_read.is y_read.is d_read.is) ∙ sym (numbers.point numbers.above)

pub invariant_of-result : goal.invariant_of-result
invariant_of-result c =
    let g = c.args.g in
    let h = c.args.h in
    let n = c.in_ok-x in
    record {
      above = d_above g h c.requires.g_bounded c.requires.h_bounded n.x n.y n.d n.ensures;
      xbound = computed_within 2000000000 (omega arith) (x_read g h c.requires.g_bounded c.requires.h_bounded n.x n.y n.d n.ensures);
      ybound = computed_within 2000000000 (omega arith) (y_read g h c.requires.g_bounded c.requires.h_bounded n.x n.y n.d n.ensures);
      dbound = computed_within 2000000 (omega arith) (d_read g h c.requires.g_bounded c.requires.h_bounded n.x n.y n.d n.ensures);
    }

pub returns : goal.returns
returns c = lists c.args.g c.args.h c.requires.g_bounded c.requires.h_bounded c.in_ok-x.x c.in_ok-x.y c.in_ok-x.d c.in_ok-x.ensures _
