use Rattle.std.proofs.Common.{◌≡◌, ◌+◌, true, ℤ, ◌-ℤ◌, ◌*ℤ◌, w32, w64, to_z, of_z}
use Rattle.rows.specs.Range.{within}
use Rattle.algebra.proofs.Computed.{Val, val_of, through, val_mul, val_sub, val_fits}
use Rattle.limits.proofs.Sizes.{val_after, within_small}
use Rattle.vertices.proofs.crossing.minor.Goals as goal

-- a number of 32 bits, as one of 64
wide : (z r : ℤ) → within 1000000 z ≡ true → r ≡ to_z w32 (of_z w32 z) → Val 1000000 (to_z w64 (of_z w64 r)) z
wide z r e p = through w64 (val_after p (val_of w32 (within_small 1000000 z e) tt)) tt

difference : (a b c d i j k l : ℤ) → within 1000000 a ≡ true → within 1000000 b ≡ true → within 1000000 c ≡ true → within 1000000 d ≡ true → i ≡ to_z w32 (of_z w32 a) → j ≡ to_z w32 (of_z w32 b) → k ≡ to_z w32 (of_z w32 c) → l ≡ to_z w32 (of_z w32 d) →
    Val (1000000000000 + 1000000000000)
    (to_z w64 (of_z w64 (to_z w64 (of_z w64 i) *ℤ to_z w64 (of_z w64 l))) -ℤ to_z w64 (of_z w64 (to_z w64 (of_z w64 k) *ℤ to_z w64 (of_z w64 j))))
    (a *ℤ d -ℤ c *ℤ b)
difference a b c d i j k l p q r s e f g h =
    val_sub (through w64 (val_mul (wide a i p e) (wide d l s h)) tt) (through w64 (val_mul (wide c k r g) (wide b j q f)) tt)

pub overflow_sub-result : goal.overflow_sub-result
overflow_sub-result k =
    val_fits w64 (difference k.args.a k.args.b k.args.c k.args.d _ _ _ _ k.requires.a_small k.requires.b_small k.requires.c_small k.requires.d_small k.from.ensures k.from-4.ensures k.from-3.ensures k.from-2.ensures) tt

pub returns : goal.returns
returns k =
    (through w64 (difference k.args.a k.args.b k.args.c k.args.d _ _ _ _ k.requires.a_small k.requires.b_small k.requires.c_small k.requires.d_small k.from.ensures k.from-4.ensures k.from-3.ensures k.from-2.ensures) tt).is
