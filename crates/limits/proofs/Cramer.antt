-- The crossing of two lines by its numbers: its point, and how large the numbers are.
use Rattle.std.proofs.Common.{◌≡◌, zero, suc, [], ◌∷◌, ℤ, pos, negsuc, neg_ℤ, ◌<ℤ◌, ap, ◌∙◌, subst}
use lib.Dec.{T_prop}
use lib.Signed.{lt_z, <ℤ_irrefl}
use Rattle.algebra.specs.Point.{Point}
use Rattle.limits.specs.Crossings.{point_of, above}

lt_prop : {a b : ℤ} (h i : a <ℤ b) → h ≡ i
lt_prop {a} {b} h i = λ j. record { lt = T_prop (lt_z a b) h.lt i.lt j }

abbrev pub with_numbers : (x y d : ℤ) → pos 0 <ℤ d → Point
with_numbers x y d h = record { X = x; Y = y; D = d; positive = h }

-- equal numbers, equal points
pub same_numbers : (x y d x' y' d' : ℤ) (h : pos 0 <ℤ d) (h' : pos 0 <ℤ d') → x ≡ x' → y ≡ y' → d ≡ d' → with_numbers x y d h ≡ with_numbers x' y' d' h'
same_numbers x y d x' y' d' h h' p q r =
    ap (λ (n : ℤ). with_numbers n y d h) p ∙ ap (λ (n : ℤ). with_numbers x' n d h) q
    ∙ subst (λ (n : ℤ). (k : pos 0 <ℤ n) → with_numbers x' y' d h ≡ with_numbers x' y' n k) r (λ k. ap (with_numbers x' y' d) (lt_prop h k)) h'

pub point_above : (x y d : ℤ) (h : pos 0 <ℤ d) → point_of x y d ≡ with_numbers x y d h ∷ []
point_above x y (pos zero) h = absurd (<ℤ_irrefl h)
point_above x y (pos (suc n)) h = ap (λ k. with_numbers x y (pos (suc n)) k ∷ []) (lt_prop (above n) h)
point_above x y (negsuc n) h = absurd h.lt

pub point_below : (x y d : ℤ) → d <ℤ pos 0 → (h : pos 0 <ℤ neg_ℤ d) → point_of x y d ≡ with_numbers (neg_ℤ x) (neg_ℤ y) (neg_ℤ d) h ∷ []
point_below x y (pos zero) l h = absurd (<ℤ_irrefl h)
point_below x y (pos (suc n)) l h = absurd h.lt
point_below x y (negsuc n) l h = ap (λ k. with_numbers (neg_ℤ x) (neg_ℤ y) (pos (suc n)) k ∷ []) (lt_prop (above n) h)

pub point_none : (x y d : ℤ) → d ≡ pos 0 → point_of x y d ≡ []
point_none x y d e = ap (point_of x y) e
