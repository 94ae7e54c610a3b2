-- Where something occurs in a list, by place.
use Rattle.std.proofs.Common.{◌≡◌, ℕ, zero, suc, ◌<◌, Bool, true, false, List, [], ◌∷◌, length, get_or, ℤ, pos, Decides, sym, refl, subst, inl, inr, zero-le, arith}
use Rattle.std.specs.List.{IsAnyAnswer}
use Rattle.std.specs.Ordering.{int_eq}
use Rattle.std.proofs.lemmas.Bool.{false≢true, both_ways}
use Rattle.std.proofs.lemmas.Bool.Decides.{Decides-int_eq}
use Rattle.lptype.specs.Meaning.{In}

pub in_at : {X : Type 0} (xs : List X) (k : ℕ) (d : X) → k < length xs → In (get_or xs k d) xs
in_at [] k d l = absurd (omega arith)
in_at (x ∷ xs) zero d l = inl refl
in_at (x ∷ xs) (suc k) d l = inr (in_at xs k d (omega arith))

pub place_of : {X : Type 0} (xs : List X) (x d : X) → In x xs → (k : ℕ) × (k < length xs) × (get_or xs k d ≡ x)
place_of [] x d i = absurd i
place_of (y ∷ ys) x d (inl e) = (0, omega arith, sym e)
place_of (y ∷ ys) x d (inr i) = let p = place_of ys x d i in (suc p.0, omega (arith, p.1), p.2)

-- the answer of a search for a number says whether it occurs
pub decides_in : (p : ℤ) (ps : List ℤ) (r : Bool) → IsAnyAnswer (λ y b. int_eq y p ≡ b) ps r → Decides r (In p ps)
decides_in p ps true (k, l, h) = ((λ _. subst (λ q. In q ps) ((Decides-int_eq (get_or ps k (pos 0)) p).0 (h (pos 0))) (in_at ps k (pos 0) l)), λ _. refl)
decides_in p ps false n = (
  (λ e. absurd (false≢true e)),
  (λ i. let k = place_of ps p (pos 0) i in absurd (both_ways (int_eq (get_or ps k.0 (pos 0)) p) (n k.0 (pos 0) zero-le k.1) ((Decides-int_eq (get_or ps k.0 (pos 0)) p).1 k.2))),
)
