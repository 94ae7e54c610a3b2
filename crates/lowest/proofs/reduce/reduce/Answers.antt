use Prim.Native.Nat.{◌∣◌}
use Rattle.std.proofs.Common.{◌≡◌, ℤ, pos, ◌*ℤ◌, nat_abs, ◌<ℤ◌, ap, ◌∙◌, subst, w64, SFits, to_z, of_z}
use Rattle.std.specs.Int.Signed.{quot_z}
use Rattle.std.proofs.lemmas.Int.{to_z-of_z, quot_fits}
use Rattle.lowest.specs.Reduced.{Divisor, LowestTerms}
use Rattle.lowest.proofs.LowestTerms.{quotient_exact, lowest_terms}
use Rattle.lowest.proofs.reduce.reduce.Goals as goal

-- a quotient as the code has it
abbrev over : ℤ → ℤ → ℤ
over n g = to_z w64 (of_z w64 (quot_z (to_z w64 (of_z w64 n)) (to_z w64 (of_z w64 g))))

-- and times the divisor
exact : (n g : ℤ) → SFits w64 n → SFits w64 g → pos 0 <ℤ g → nat_abs g ∣ nat_abs n → over n g *ℤ g ≡ n
exact n g fn fg p v =
    ap (λ (z : ℤ). z *ℤ g) (ap (λ (z : ℤ). to_z w64 (of_z w64 (quot_z z (to_z w64 (of_z w64 g))))) (to_z-of_z w64 n fn) ∙ ap (λ (z : ℤ). to_z w64 (of_z w64 (quot_z n z))) (to_z-of_z w64 g fg) ∙ to_z-of_z w64 (quot_z n g) (quot_fits w64 n g fn p))
    ∙ quotient_exact n g p v

-- the divisor of the numbers as they are passed
passed : (x y d g : ℤ) → SFits w64 x → SFits w64 y → SFits w64 d → Divisor (to_z w64 (of_z w64 x)) (to_z w64 (of_z w64 y)) (to_z w64 (of_z w64 d)) g → Divisor x y d g
passed x y d g fx fy fd i =
    subst (λ (n : ℤ). Divisor x y n g) (to_z-of_z w64 d fd) (subst (λ (n : ℤ). Divisor x n (to_z w64 (of_z w64 d)) g) (to_z-of_z w64 y fy) (subst (λ (n : ℤ). Divisor n (to_z w64 (of_z w64 y)) (to_z w64 (of_z w64 d)) g) (to_z-of_z w64 x fx) i))

-- the three quotients are the point in lowest terms
lowest : (x y d g : ℤ) → SFits w64 x → SFits w64 y → SFits w64 d → SFits w64 g → pos 0 <ℤ d → Divisor (to_z w64 (of_z w64 x)) (to_z w64 (of_z w64 y)) (to_z w64 (of_z w64 d)) g → LowestTerms x y d (over x g) (over y g) (over d g)
lowest x y d g fx fy fd fg p v =
    let i = passed x y d g fx fy fd v in
    lowest_terms x y d g (over x g) (over y g) (over d g) p i (exact x g fx fg i.above i.of_x) (exact y g fy fg i.above i.of_y) (exact d g fd fg i.above i.of_d)

pub returns : goal.returns
returns c = lowest c.args.x c.args.y c.args.d c.divisor-g.result c.ranges.x c.ranges.y c.ranges.d (record { sfits = c.divisor-g.type_inv }) c.requires c.divisor-g.ensures
