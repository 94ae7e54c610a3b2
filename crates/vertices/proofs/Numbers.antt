-- The three numbers of a crossing are those of its point, and small.
use Rattle.std.proofs.Common.{◌≡◌, Bool, true, false, cond, [], ◌∷◌, ℤ, pos, neg_ℤ, ◌<ℤ◌, Some, None, Option, sym, refl, subst, arith, w32, to_z, of_z}
use lib.Signed.{lt_z}
use Rattle.std.proofs.lemmas.Bool.{false≢true}
use Rattle.rows.specs.declared.row.Constraint.{Constraint}
use Rattle.algebra.proofs.Order.{lin, antisym, lt_z_out, lt_z_false}
use Rattle.rows.specs.Range.{within}
use Rattle.limits.specs.Crossings.{point_of, cramer_x, cramer_y, cramer_d}
use Rattle.limits.proofs.Cramer.{with_numbers, point_above, point_below, point_none}
use Rattle.algebra.specs.Small.{Small}
use Rattle.algebra.proofs.Computed.{Val, val_of, small_mul, small_sub, small_neg}
use Rattle.limits.proofs.Sizes.{computed_within, within_small}
use Rattle.vertices.specs.Crossed.{upright, Bounded}

-- x, y, d are the numbers of the point X/D, Y/D
pub record Upright (X Y D x y d : ℤ) : Type 0 where
  pub above : pos 0 <ℤ d
  pub x_small : Small 2000000000 x
  pub y_small : Small 2000000000 y
  pub d_small : Small 2000000 d
  pub point : (h : pos 0 <ℤ d) → point_of X Y D ≡ with_numbers x y d h ∷ []

-- three numbers together
abbrev three : ℤ → ℤ → ℤ → Option (ℤ × ℤ × ℤ)
three x y d = Some (x, y, d)

neg_pos : {d : ℤ} → d <ℤ pos 0 → pos 0 <ℤ neg_ℤ d
neg_pos {d} h = omega (arith, lin)

module _ (X Y D : ℤ) where
  module _ (p : Small 2000000000 X) (q : Small 2000000000 Y) (r : Small 2000000 D) where
    as_is : pos 0 <ℤ D → Upright X Y D X Y D
    as_is h = record { above = h; x_small = p; y_small = q; d_small = r; point = point_above X Y D }

    negated : D <ℤ pos 0 → Upright X Y D (neg_ℤ X) (neg_ℤ Y) (neg_ℤ D)
    negated h = record { above = neg_pos h; x_small = small_neg p; y_small = small_neg q; d_small = small_neg r; point = point_below X Y D h }

    pub upright_some : (x y d : ℤ) → three x y d ≡ upright X Y D → Upright X Y D x y d
    upright_some x y d e = go (lt_z (pos 0) D) (lt_z D (pos 0)) refl refl e
      where
        moved : (x' y' d' : ℤ) → three x y d ≡ three x' y' d' → Upright X Y D x' y' d' → Upright X Y D x y d
        moved x' y' d' f u =
            let t : ◌≡◌ {A = ℤ × ℤ × ℤ} (x, y, d) (x', y', d') = cc in
            subst (λ k. Upright X Y D k.0 k.1 k.2) (sym t) u

        go : (b b' : Bool) → lt_z (pos 0) D ≡ b → lt_z D (pos 0) ≡ b' → three x y d ≡ cond b (three X Y D) (cond b' (three (neg_ℤ X) (neg_ℤ Y) (neg_ℤ D)) None) → Upright X Y D x y d
        go true b' f g e = moved X Y D e (as_is (lt_z_out f))
        go false true f g e = moved (neg_ℤ X) (neg_ℤ Y) (neg_ℤ D) e (negated (lt_z_out g))
        go false false f g e = let z : false ≡ true = cc in absurd (false≢true z)

  pub upright_none : None ≡ upright X Y D → point_of X Y D ≡ []
  upright_none e = go (lt_z (pos 0) D) (lt_z D (pos 0)) refl refl e
    where
      go : (b b' : Bool) → lt_z (pos 0) D ≡ b → lt_z D (pos 0) ≡ b' → None ≡ cond b (three X Y D) (cond b' (three (neg_ℤ X) (neg_ℤ Y) (neg_ℤ D)) None) → point_of X Y D ≡ []
      go true b' f g e = let z : false ≡ true = cc in absurd (false≢true z)
      go false true f g e = let z : false ≡ true = cc in absurd (false≢true z)
      go false false f g e = point_none X Y D (antisym (lt_z_false f) (lt_z_false g))

-- Cramer's numbers are small

module _ (g h : Constraint) (p : Bounded g) (q : Bounded h) where
  pub cramer_x_small : Small 2000000000 (cramer_x g h)
  cramer_x_small = small_sub (small_mul (within_small 1000000 g.c p.c_small) (within_small 1000 h.b q.b_small)) (small_mul (within_small 1000000 h.c q.c_small) (within_small 1000 g.b p.b_small))

  pub cramer_y_small : Small 2000000000 (cramer_y g h)
  cramer_y_small = small_sub (small_mul (within_small 1000 g.a p.a_small) (within_small 1000000 h.c q.c_small)) (small_mul (within_small 1000 h.a q.a_small) (within_small 1000000 g.c p.c_small))

  pub cramer_d_small : Small 2000000 (cramer_d g h)
  cramer_d_small = small_sub (small_mul (within_small 1000 g.a p.a_small) (within_small 1000 h.b q.b_small)) (small_mul (within_small 1000 h.a q.a_small) (within_small 1000 g.b p.b_small))

-- the numbers of a limit, as the code passes them

module _ (g : Constraint) (p : Bounded g) where
  pub a_read : Val 1000 (to_z w32 (of_z w32 g.a)) g.a
  a_read = val_of w32 (within_small 1000 g.a p.a_small) tt

  pub b_read : Val 1000 (to_z w32 (of_z w32 g.b)) g.b
  b_read = val_of w32 (within_small 1000 g.b p.b_small) tt

  pub c_read : Val 1000000 (to_z w32 (of_z w32 g.c)) g.c
  c_read = val_of w32 (within_small 1000000 g.c p.c_small) tt

  pub a_fine : within 1000000 (to_z w32 (of_z w32 g.a)) ≡ true
  a_fine = computed_within 1000000 (omega arith) a_read

  pub b_fine : within 1000000 (to_z w32 (of_z w32 g.b)) ≡ true
  b_fine = computed_within 1000000 (omega arith) b_read

  pub c_fine : within 1000000 (to_z w32 (of_z w32 g.c)) ≡ true
  c_fine = computed_within 1000000 (omega arith) c_read
