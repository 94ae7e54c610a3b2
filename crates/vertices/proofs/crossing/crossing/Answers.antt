use Rattle.std.proofs.Common.{◌≡◌, ℤ, ◌-ℤ◌, ◌*ℤ◌, ap, ◌∙◌, arith, w32, w64, to_z, of_z}
use Rattle.rows.specs.declared.row.Constraint.{Constraint}
use Rattle.limits.specs.Crossings.{cramer_x, cramer_y, cramer_d}
use Rattle.algebra.proofs.Computed.{Val, through, val_mul, val_sub}
use Rattle.limits.proofs.Sizes.{computed_within, val_after}
use Rattle.vertices.specs.Crossed.{upright, Bounded}
use Rattle.vertices.proofs.Numbers.{a_read, b_read, c_read}
use Rattle.vertices.proofs.crossing.crossing.Goals as goal

-- the three numbers as `upright` is passed them
module _ (g h : Constraint) (p : Bounded g) (q : Bounded h) (r : ℤ) where
  x_passed : r ≡ to_z w32 (of_z w32 g.c) *ℤ to_z w32 (of_z w32 h.b) -ℤ to_z w32 (of_z w32 h.c) *ℤ to_z w32 (of_z w32 g.b) → Val 2000000000 (to_z w64 (of_z w64 r)) (cramer_x g h)
  x_passed e = through w64 (val_after e (val_sub (val_mul (c_read g p) (b_read h q)) (val_mul (c_read h q) (b_read g p)))) tt

  y_passed : r ≡ to_z w32 (of_z w32 g.a) *ℤ to_z w32 (of_z w32 h.c) -ℤ to_z w32 (of_z w32 h.a) *ℤ to_z w32 (of_z w32 g.c) → Val 2000000000 (to_z w64 (of_z w64 r)) (cramer_y g h)
  y_passed e = through w64 (val_after e (val_sub (val_mul (a_read g p) (c_read h q)) (val_mul (a_read h q) (c_read g p)))) tt

  d_passed : r ≡ to_z w32 (of_z w32 g.a) *ℤ to_z w32 (of_z w32 h.b) -ℤ to_z w32 (of_z w32 h.a) *ℤ to_z w32 (of_z w32 g.b) → Val 2000000 (to_z w64 (of_z w64 r)) (cramer_d g h)
  d_passed e = through w64 (val_after e (val_sub (val_mul (a_read g p) (b_read h q)) (val_mul (a_read h q) (b_read g p)))) tt

pub upright-requires-clause-x_small : goal.upright-requires-clause-x_small
upright-requires-clause-x_small k = computed_within 2000000000 (omega arith) (x_passed k.args.g k.args.h k.requires.g_bounded k.requires.h_bounded k.minor-x.result k.minor-x.ensures)

pub upright-requires-clause-y_small : goal.upright-requires-clause-y_small
upright-requires-clause-y_small k = computed_within 2000000000 (omega arith) (y_passed k.args.g k.args.h k.requires.g_bounded k.requires.h_bounded k.minor-y.result k.minor-y.ensures)

pub upright-requires-clause-d_small : goal.upright-requires-clause-d_small
upright-requires-clause-d_small k = computed_within 2000000 (omega arith) (d_passed k.args.g k.args.h k.requires.g_bounded k.requires.h_bounded k.minor-d.result k.minor-d.ensures)

pub returns : goal.returns
returns k =
    let g = k.args.g in
    let h = k.args.h in
    let x = (x_passed g h k.requires.g_bounded k.requires.h_bounded k.minor-x.result k.minor-x.ensures).is in
    let y = (y_passed g h k.requires.g_bounded k.requires.h_bounded k.minor-y.result k.minor-y.ensures).is in
    let d = (d_passed g h k.requires.g_bounded k.requires.h_bounded k.minor-d.result k.minor-d.ensures).is in
    k.upright.ensures
    ∙ ap (λ (n : ℤ). upright n (to_z w64 (of_z w64 k.minor-y.result)) (to_z w64 (of_z w64 k.minor-d.result))) x
    ∙ ap (λ (n : ℤ). upright (cramer_x g h) n (to_z w64 (of_z w64 k.minor-d.result))) y
    ∙ ap (λ (n : ℤ). upright (cramer_x g h) (cramer_y g h) n) d
