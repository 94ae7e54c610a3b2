-- Whatever the seed, the order is a permutation of the rows in use: each entry is in use, and each row is reached.
use Rattle.std.proofs.Common.{◌≡◌, ℕ, zero, suc, ◌+◌, ◌-◌, ◌/◌, ◌<◌, true, eqb, List, [], ◌∷◌, ◌++◌, length, get_or, take, set, refl, ap, ◌∙◌, subst, mod-lt, arith, length-set, get_or-take}
use Rattle.std.specs.List.{range_with_len}
use Rattle.std.specs.List.Sorted.{IsPermutation}
use Rattle.std.proofs.lemmas.List.FromFn.{length-range_with_len, get_or-range_with_len}
use Rattle.std.proofs.lemmas.List.Edits.{swap_is}
use Rattle.std.proofs.ByRecursion.{All-get_or, All-from_get_or, all_shuffled, has_shuffled}
use Rattle.std.proofs.lemmas.List.{take_at}
use Rattle.std.proofs.lemmas.List.Sorted.{IsPermutation-refl, IsPermutation-swap, IsPermutation-trans, length_permutation}
use Rattle.std.proofs.lemmas.Bool.{or_left, or_right, eq-eqb}
use Rattle.checking.specs.Filed.{AllBelow, occurs, Covers}
use Rattle.walk.specs.Shuffling.{next_seed, swap_place, swapped, mixed, shuffled, Permutes}

swap_place_lt : (seed i : ℕ) → swap_place seed i < i + 1
swap_place_lt seed i = mod-lt (seed / 65536) {m = i + 1} (omega arith)

length_swapped : (xs : List ℕ) (i j : ℕ) → length (swapped xs i j) ≡ length xs
length_swapped xs i j = length-set (set xs i (get_or xs j 0)) j (get_or xs i 0) ∙ length-set xs i (get_or xs j 0)

mixed_shuffled : (i seed : ℕ) (xs : List ℕ) → i < length xs → IsPermutation xs (mixed i seed xs)
mixed_shuffled zero seed xs l = IsPermutation-refl xs
mixed_shuffled (suc i) seed xs l =
    let s = next_seed seed in
    let j = swap_place s (suc i) in
    let ys = swapped xs (suc i) j in
    let h : j < length xs = omega (arith, swap_place_lt s (suc i)) in
    IsPermutation-trans xs ys (mixed i s ys)
    (IsPermutation-swap xs ys (suc i) j l h (swap_is xs (suc i) j 0 l h))
    (mixed_shuffled i s ys (omega (arith, length_swapped xs (suc i) j)))

pub shuffled_permutes : (n seed : ℕ) → Permutes (shuffled n seed) n
shuffled_permutes zero seed = IsPermutation-refl []
shuffled_permutes (suc n) seed = mixed_shuffled (suc n - 1) seed (range_with_len 0 (suc n)) (omega (arith, length-range_with_len 0 (suc n)))

-- ---- what a permutation of the rows in use gives a register

occurs_by : (k : ℕ) (xs : List ℕ) (i : ℕ) → i < length xs → get_or xs i 0 ≡ k → occurs k xs ≡ true
occurs_by k [] i l e = absurd (omega arith)
occurs_by k (x ∷ xs) zero l e = or_left (eqb x k) (occurs k xs) (eq-eqb x k e)
occurs_by k (x ∷ xs) (suc i) l e = or_right (eqb x k) (occurs k xs) (occurs_by k xs i (omega arith) e)

module _ (order : List ℕ) (n : ℕ) (p : Permutes (take n order) n) where
  pub permuted_below : AllBelow order n
  permuted_below i l =
      let all = All-from_get_or (λ k. k < n) (range_with_len 0 n) 0 (λ k h. let g : k < n = omega (arith, length-range_with_len 0 n) in omega (arith, get_or-range_with_len 0 n k 0 g)) in
      let few : i < length (take n order) = omega (arith, length_permutation (range_with_len 0 n) (take n order) p, length-range_with_len 0 n) in
      subst (λ (k : ℕ). k < n) (get_or-take n order i 0 l) (All-get_or (λ k. k < n) (take n order) i 0 few (all_shuffled (λ k. k < n) (range_with_len 0 n) (take n order) p all))

  pub permuted_covers : Covers order n
  permuted_covers k l =
      let h = has_shuffled (range_with_len 0 n) (take n order) k p (k, omega (arith, length-range_with_len 0 n), λ d. let e = get_or-range_with_len 0 n k d l in omega (arith, e)) in
      occurs_by k (take n order) h.0 h.1 (h.2 0)

-- ---- one turn of the code

-- the numbers in rising order, mixed, are in front of the order
pub shuffled_front : (n seed : ℕ) (xs ys rest : List ℕ) → xs ≡ range_with_len 0 n → ys ≡ mixed (length xs - 1) seed xs → take n (ys ++ rest) ≡ shuffled n seed
shuffled_front n seed xs ys rest e f =
    let g : ys ≡ shuffled n seed = f ∙ ap (λ (l : List ℕ). mixed (length l - 1) seed l) e ∙ ap (λ (k : ℕ). mixed (k - 1) seed (range_with_len 0 n)) (length-range_with_len 0 n) in
    take_at ys rest n (ap length g ∙ length_permutation (range_with_len 0 n) (shuffled n seed) (shuffled_permutes n seed) ∙ length-range_with_len 0 n) ∙ g

-- seed 0 and four rows
pub four_rows : shuffled 4 0 ≡ 3 ∷ (0 ∷ (1 ∷ (2 ∷ [])))
four_rows = refl
