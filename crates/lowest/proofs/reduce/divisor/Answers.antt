use Rattle.std.proofs.Common.{◌≡◌, ℕ, ◌^◌, ◌<◌, ℤ, pos, nat_abs, ◌<ℤ◌, sym, ap, ◌∙◌, subst, arith, w64, SFits, to_z, of_z}
use borrow.Author.Differences.{abs_is}
use Rattle.std.proofs.lemmas.Int.{ints, to_z-of_z, to_z_pos}
use Rattle.std.specs.Int.{IsGcd}
use Rattle.lowest.specs.Reduced.{Divisor}
use Rattle.lowest.proofs.LowestTerms.{divisor_small, divisor_of}
use Rattle.lowest.proofs.reduce.divisor.Goals as goal

-- a size as it is passed
size : (a : ℕ) (z : ℤ) → SFits w64 z → a ≡ nat_abs (to_z w64 (of_z w64 z)) → a ≡ nat_abs z
size a z f e = e ∙ ap nat_abs (to_z-of_z w64 z f)

short : (d : ℤ) (e m g : ℕ) → SFits w64 d → pos 0 <ℤ d → e ≡ nat_abs (to_z w64 (of_z w64 d)) → IsGcd m e g → g < 2 ^ 63
short d e m g f p k j =
    let l = divisor_small d m g p (subst (λ (n : ℕ). IsGcd m n g) (size e d f k) j) in
    omega (arith, ints, abs_is d)

pub overflow_cast-result : goal.overflow_cast-result
overflow_cast-result c =
    let l = short c.args.d c.unsigned_abs-3.result c.gcd.result c.gcd-2.result c.ranges.d c.requires c.unsigned_abs-3.ensures.value c.gcd-2.ensures in
    omega (arith, ints)

pub returns : goal.returns
returns c =
    let x = c.args.x in
    let y = c.args.y in
    let d = c.args.d in
    let m = c.gcd.result in
    let g = c.gcd-2.result in
    let i : IsGcd (nat_abs x) (nat_abs y) m = subst (λ (n : ℕ). IsGcd (nat_abs x) n m) (size c.unsigned_abs-2.result y c.ranges.y c.unsigned_abs-2.ensures.value)
    (subst (λ (n : ℕ). IsGcd n c.unsigned_abs-2.result m) (size c.unsigned_abs.result x c.ranges.x c.unsigned_abs.ensures.value) c.gcd.ensures) in
    let j : IsGcd m (nat_abs d) g = subst (λ (n : ℕ). IsGcd m n g) (size c.unsigned_abs-3.result d c.ranges.d c.unsigned_abs-3.ensures.value) c.gcd-2.ensures in
    let l = short d c.unsigned_abs-3.result m g c.ranges.d c.requires c.unsigned_abs-3.ensures.value c.gcd-2.ensures in
    subst (Divisor x y d) (sym (to_z_pos w64 g l)) (divisor_of x y d m g c.requires i j)
