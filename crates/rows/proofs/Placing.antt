-- What a test of each element of a list, or of each number below a bound, decides.
use denote.Param.Members.{Mut}
use Rattle.std.proofs.Common.{◌≡◌, ℕ, ◌<◌, Bool, true, false, List, length, Decides, Option, MatchOption, sym, refl, ◌∙◌, subst, get_or, zero-le, arith}
use Rattle.std.specs.Bool.{MatchBool}
use Rattle.std.specs.List.{AllByRecursion, AllWithin, HoldsAt, FoldsTo, range_with_len}
use Rattle.std.specs.Fn.{Called}
use Rattle.std.specs.Iterator.{YieldsThen}
use Rattle.std.proofs.lemmas.Bool.{false≢true}
use Rattle.std.proofs.lemmas.Iterator.{YieldsList, cases_from_all}
use Rattle.std.proofs.lemmas.List.FromFn.{length-range_with_len, get_or-range_with_len}
use Rattle.std.proofs.ByRecursion.{All-get_or, All-from_get_or}

-- a test that fails where P fails of some element, and else passes
pub decides_each : {X : Type 0} (P : X → Type 0) (d : X) (xs : List X) (r : Bool) → MatchBool r (AllWithin P xs 0 (length xs)) ((k : ℕ) × (k < length xs) × HoldsAt (λ x. P x → ⊥) xs k) → Decides r (AllByRecursion P xs)
decides_each P d xs true a = ((λ _. All-from_get_or P xs d (λ k l. a k d zero-le l)), λ _. refl)
decides_each P d xs false n = ((λ e. absurd (false≢true e)), λ a. absurd (n.2 d (All-get_or P xs n.0 d n.1 a)))

nth_below : (n i : ℕ) → i < n → get_or (range_with_len 0 n) i 0 ≡ i
nth_below n i l = get_or-range_with_len 0 n i 0 l ∙ omega arith

-- the same of a test of each number below n
pub decides_below : (P : ℕ → Type 0) (n : ℕ) (r : Bool) → MatchBool r (AllWithin P (range_with_len 0 n) 0 (length (range_with_len 0 n))) ((k : ℕ) × (k < length (range_with_len 0 n)) × HoldsAt (λ i. P i → ⊥) (range_with_len 0 n) k) → Decides r ((i : ℕ) → i < n → P i)
decides_below P n true a = ((λ _ i l. subst P (nth_below n i l) (a i 0 zero-le (subst (λ m. i < m) (sym (length-range_with_len 0 n)) l))), λ _. refl)
decides_below P n false (k, l, h) =
    let below = subst (λ m. k < m) (length-range_with_len 0 n) l in
    ((λ e. absurd (false≢true e)), λ a. absurd (h 0 (subst P (sym (nth_below n k below)) (a k below))))

-- the same of a chain of iterators that ends in `all`, where the closure stays as it was
module _ {S A B F : Type 0} {steps : S → Option A → S → Type 0} {v : A → B} {g : Mut F (A × Unit {0}) Bool} {s : S} {items : List B} where
  pub decides_all : (P : B → Type 0) (d : B) (u : S) (f : F) (r : Bool)
      → (xs : List A) × (o : Option A) × (j : F) × YieldsThen steps s xs o u × FoldsTo (λ p x q. Called g p (x, tt) true q) f xs j × MatchOption o (r ≡ true) (λ x. (r ≡ false) × ((h : F) × Called g j (x, tt) false h))
      → YieldsList steps v s items → ((x : A) (q : F) → Called g f (x, tt) true q → (q ≡ f) × P (v x)) → ((x : A) (q : F) → Called g f (x, tt) false q → P (v x) → ⊥) → Decides r (AllByRecursion P items)
  decides_all P d u f r ran chain holds fails = decides_each P d items r (cases_from_all u f r P (λ x. P x → ⊥) ran chain holds fails)
