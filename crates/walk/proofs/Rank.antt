-- How many short lists of constraints have a value above a given one: a number that falls as the value rises.
use Rattle.std.proofs.Common.{◌≡◌, ℕ, zero, suc, ◌+◌, ◌-◌, ◌*◌, ◌<◌, ◌≤◌, Bool, true, false, cond, not, List, [], ◌∷◌, ◌++◌, map, length, sym, refl, ap, ◌∙◌, subst, inl, inr, ⊎_elim, mul-le-mul_right, add-mul, one-mul, arith}
use Rattle.std.proofs.lemmas.Bool.{both_ways, not-true, not_from_true, not_from_false}
use Rattle.rows.specs.declared.row.Constraint.{Constraint}
use Rattle.lptype.specs.Meaning.{Meaning, Value, at_most, Le, Less, In, Within}
use Rattle.lptype.specs.Laws.{TotalOrder}
use Rattle.lptype.proofs.Inside.{in_left, in_right, in_map}
use Rattle.lptype.proofs.Order.{less_le, not_both}

-- ---- the lists of at most k elements

abbrev headed : {X : Type 0} → List X → List (List X) → List (List X)
headed [] Ls = []
headed (x ∷ xs) Ls = map (λ l. x ∷ l) Ls ++ headed xs Ls

lists : {X : Type 0} → ℕ → List X → List (List X)
lists zero xs = [] ∷ []
lists (suc k) xs = [] ∷ headed xs (lists k xs)

module _ {X : Type 0} where
  in_headed : (x : X) (l xs : List X) (Ls : List (List X)) → In x xs → In l Ls → In (x ∷ l) (headed xs Ls)
  in_headed x l [] Ls i j = absurd i
  in_headed x l (y ∷ xs) Ls (inl e) j = in_left (map (λ k. y ∷ k) Ls) (headed xs Ls) (x ∷ l)
      (subst (λ z. In (z ∷ l) (map (λ k. y ∷ k) Ls)) (sym e) (in_map (λ k. y ∷ k) Ls l j))
  in_headed x l (y ∷ xs) Ls (inr i) j = in_right (map (λ k. y ∷ k) Ls) (headed xs Ls) (x ∷ l) (in_headed x l xs Ls i j)

  in_lists : (k : ℕ) (xs l : List X) → length l ≤ k → Within l xs → In l (lists k xs)
  unfolding lists
  in_lists zero xs [] n w = inl refl
  in_lists zero xs (x ∷ l) n w = absurd (omega arith)
  in_lists (suc k) xs [] n w = inl refl
  in_lists (suc k) xs (x ∷ l) n w = inr (in_headed x l xs (lists k xs) (w x (inl refl)) (in_lists k xs l (omega arith) (λ y i. w y (inr i))))

-- ---- how many elements pass a test

abbrev count : {X : Type 0} → (X → Bool) → List X → ℕ
count p [] = 0
count p (x ∷ xs) = cond (p x) 1 0 + count p xs

one_le : (a b : Bool) → (a ≡ true → b ≡ true) → cond a 1 0 ≤ cond b 1 0
one_le true true h = omega arith
one_le true false h = absurd (both_ways false refl (h refl))
one_le false true h = omega arith
one_le false false h = omega arith

one_lt : (a b : Bool) → a ≡ false → b ≡ true → cond a 1 0 < cond b 1 0
one_lt true b e f = absurd (both_ways true e refl)
one_lt false true e f = omega arith
one_lt false false e f = absurd (both_ways false refl f)

-- a test that passes whatever another passes
module _ {X : Type 0} (p q : X → Bool) (h : (x : X) → p x ≡ true → q x ≡ true) where
  count_le : (xs : List X) → count p xs ≤ count q xs
  count_le [] = omega arith
  count_le (x ∷ xs) = omega (arith, one_le (p x) (q x) (h x), count_le xs)

  count_lt : (xs : List X) (x : X) → In x xs → p x ≡ false → q x ≡ true → count p xs < count q xs
  count_lt [] x i e f = absurd i
  count_lt (y ∷ xs) x (inl s) e f = omega (arith, one_lt (p y) (q y) (ap p (sym s) ∙ e) (ap q (sym s) ∙ f), count_le xs)
  count_lt (y ∷ xs) x (inr i) e f = omega (arith, one_le (p y) (q y) (h y), count_lt xs x i e f)

-- ---- the rank of a value

abbrev exceeds : (m : Meaning) → Value m.Size → List Constraint → Bool
exceeds m v F = not (at_most m.le (m.value F) v)

-- how many lists of at most `dimension` of the constraints have a value above v
pub rank : (m : Meaning) → List Constraint → Value m.Size → ℕ
rank m G v = count (exceeds m v) (lists m.dimension G)

weaken : (m : Meaning) (t : TotalOrder m) (u v : Value m.Size) → Less m.le u v → Le m.le u v
weaken m t u v l = ⊎_elim (λ h. h) (λ h. absurd (not_both m u v l h)) (t.comparable u v)

pub rank_falls : (m : Meaning) (t : TotalOrder m) (G B : List Constraint) (v : Value m.Size) → length B ≤ m.dimension → Within B G
    → Less m.le v (m.value B) → rank m G (m.value B) < rank m G v
unfolding rank
rank_falls m t G B v l w h = count_lt (exceeds m (m.value B)) (exceeds m v)
    (λ F e. not_from_false (at_most m.le (m.value F) v)
    (less_le m t v (m.value B) (m.value F) h (weaken m t (m.value B) (m.value F) (not-true (at_most m.le (m.value F) (m.value B)) e))))
    (lists m.dimension G) B (in_lists m.dimension G B l w)
    (not_from_true (at_most m.le (m.value B) (m.value B)) (t.reflexive (m.value B)))
    (not_from_false (at_most m.le (m.value B) v) h)

-- the measure of a walk falls at an exchange, which goes back to the first place
pub turn_falls : (n i r s : ℕ) → s < r → s * (n + 1) + (n - 0) < r * (n + 1) + (n - i)
turn_falls n i r s l = omega (arith, mul-le-mul_right {m = s + 1} {n = r} (n + 1) (omega arith), add-mul s 1 (n + 1), one-mul (n + 1))
