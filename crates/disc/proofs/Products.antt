-- What 64 bits compute of the coordinates of vectors and the squares of points.
use Rattle.std.proofs.Common.{◌≡◌, ℕ, ◌+◌, ◌^◌, T, ltb, ℤ, ◌+ℤ◌, ◌*ℤ◌, w64, to_z, of_z, SFits}
use mir.Val.{hbits}
use Rattle.algebra.specs.Small.{Small}
use Rattle.algebra.proofs.Computed.{Val, val_of, val_result, val_add, val_mul, val_fits, through}

-- the product of two coordinates of vectors
pub product : {m n : ℤ} → Small 20000 m → Small 20000 n → Val 400000000 (to_z w64 (of_z w64 (to_z w64 (of_z w64 m) *ℤ to_z w64 (of_z w64 n)))) (m *ℤ n)
product s t = through w64 (val_mul (val_of w64 s tt) (val_of w64 t tt)) tt

-- the square of a point times a coordinate of a vector
pub lever : {x y a b : ℤ} → x ≡ a → Small 800000000 x → y ≡ b → Small 20000 y → Val 16000000000000 (to_z w64 (of_z w64 (to_z w64 (of_z w64 x) *ℤ to_z w64 (of_z w64 y)))) (a *ℤ b)
lever e s f t = through w64 (val_mul (val_result w64 e s tt) (val_result w64 f t tt)) tt

pub lever_fits : {x y a b : ℤ} → x ≡ a → Small 800000000 x → y ≡ b → Small 20000 y → SFits w64 (to_z w64 (of_z w64 x) *ℤ to_z w64 (of_z w64 y))
lever_fits e s f t = val_fits w64 (val_mul (val_result w64 e s tt) (val_result w64 f t tt)) tt

-- sums of two and of three

module _ {n : ℕ} {x y a b : ℤ} (v : Val n x a) (w : Val n y b) (two : T (ltb (n + n) (2 ^ hbits w64))) where
  pub sum_of_two : Val (n + n) (to_z w64 (of_z w64 (x +ℤ y))) (a +ℤ b)
  sum_of_two = through w64 (val_add v w) two

  pub two_fit : SFits w64 (x +ℤ y)
  two_fit = val_fits w64 (val_add v w) two

  module _ {z c : ℤ} (u : Val n z c) (three : T (ltb (n + n + n) (2 ^ hbits w64))) where
    pub sum_of_three : Val (n + n + n) (to_z w64 (of_z w64 (to_z w64 (of_z w64 (x +ℤ y)) +ℤ z))) (a +ℤ b +ℤ c)
    sum_of_three = through w64 (val_add sum_of_two u) three

    pub three_fit : SFits w64 (to_z w64 (of_z w64 (x +ℤ y)) +ℤ z)
    three_fit = val_fits w64 (val_add sum_of_two u) three
