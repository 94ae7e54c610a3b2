-- Rising lists: those that agree as far as a place rise alike, and each number lies below all that follow it.
use Rattle.std.proofs.Common.{◌≡◌, ℕ, zero, suc, ◌+◌, ◌<◌, ◌≤◌, List, [], ◌∷◌, length, get_or, take, drop, ℤ, pos, ◌<ℤ◌, sym, ap, ◌∙◌, subst, add-one, arith, get_or-take}
use Rattle.std.specs.List.{AllByRecursion}
use Rattle.std.proofs.ByRecursion.{All-weaker}
use Rattle.std.proofs.lemmas.List.{length-take}
use Rattle.std.proofs.lemmas.Int.{ints}
use Rattle.rows.specs.List.{positions}
use Rattle.rows.specs.Rising.{Rising}
use Rattle.rows.specs.Sublist.{Sublist, nothing, leave, keep}
use Rattle.rows.specs.declared.positions.Positions.{Positions}
use Rattle.rows.proofs.Sublist.{sublist_all}

same_at : (xs ys : List ℤ) (n i : ℕ) → take n xs ≡ take n ys → i < n → get_or ys i (pos 0) ≡ get_or xs i (pos 0)
same_at xs ys n i e h = sym (get_or-take n ys i (pos 0) h) ∙ ap (λ l. get_or l i (pos 0)) (sym e) ∙ get_or-take n xs i (pos 0) h

pub rising_same : (xs ys : List ℤ) (n : ℕ) → take n xs ≡ take n ys → Rising ys n → Rising xs n
rising_same xs ys n e r i h =
    let k : i < n = omega arith in
    rw (same_at xs ys n i e k, same_at xs ys n (i + 1) e h) at (r i h)

-- the front of a list that rises as far as there
pub rising_front : (xs : List ℤ) (n : ℕ) → Rising xs n → Rising (take n xs) (length (take n xs))
rising_front xs n r i h =
    let k : i + 1 < n = omega (arith, length-take n xs) in
    rw (get_or-take n xs i (pos 0) (omega arith), get_or-take n xs (i + 1) (pos 0) k) (r i k)

-- what every list of positions is
pub positions_rise : (p : Positions) → Rising (positions p) (length (positions p))
positions_rise p = p.rising

pub positions_few : (p : Positions) → length (positions p) ≤ 8
positions_few p = omega (arith, length-take p.list.len p.list.at, p.list.few)

-- each number is below all that follow it
abbrev pub Ascending : List ℤ → Type 0
Ascending [] = Unit {0}
Ascending (x ∷ xs) = AllByRecursion (λ y. x <ℤ y) xs × Ascending xs

pub below_all : (x y : ℤ) (ys : List ℤ) → x <ℤ y → AllByRecursion (λ z. y <ℤ z) ys → AllByRecursion (λ z. x <ℤ z) ys
below_all x y ys l a = All-weaker (λ z. y <ℤ z) (λ z. x <ℤ z) (λ z k. omega (arith, ints)) ys a

rising_rest : (x : ℤ) (xs : List ℤ) → Rising (x ∷ xs) (length (x ∷ xs)) → Rising xs (length xs)
rising_rest x xs r i h =
    let k : suc i + 1 < suc (length xs) = omega arith in
    let e : suc i + 1 ≡ suc (i + 1) = omega arith in
    subst (λ n. get_or xs i (pos 0) <ℤ get_or (x ∷ xs) n (pos 0)) e (r (suc i) k)

pub ascending_from : (xs : List ℤ) → Rising xs (length xs) → Ascending xs
ascending_from [] r = tt
ascending_from (x ∷ []) r = (tt, tt)
ascending_from (x ∷ (y ∷ ys)) r =
    let a = ascending_from (y ∷ ys) (rising_rest x (y ∷ ys) r) in
    let l : x <ℤ y = r 0 (omega arith) in
    ((l, below_all x y ys l a.0), a)

pub rising_from : (xs : List ℤ) → Ascending xs → Rising xs (length xs)
rising_from xs a i h = subst (λ n. get_or xs i (pos 0) <ℤ get_or xs n (pos 0)) (sym (add-one i)) (go xs a i (omega arith))
  where
    go : (xs : List ℤ) → Ascending xs → (i : ℕ) → suc i < length xs → get_or xs i (pos 0) <ℤ get_or xs (suc i) (pos 0)
    go [] a i h = absurd (omega arith)
    go (x ∷ []) a i h = absurd (omega arith)
    go (x ∷ (y ∷ ys)) a zero h = a.0.0
    go (x ∷ (y ∷ ys)) a (suc i) h = go (y ∷ ys) a.1 i (omega arith)

pub ascending_drop : (n : ℕ) (xs : List ℤ) → Ascending xs → Ascending (drop n xs)
ascending_drop zero xs a = a
ascending_drop (suc n) [] a = tt
ascending_drop (suc n) (x ∷ xs) a = ascending_drop n xs a.1

pub ascending_sublist : {xs ys : List ℤ} → Sublist xs ys → Ascending ys → Ascending xs
ascending_sublist nothing a = tt
ascending_sublist (leave s) a = ascending_sublist s a.1
ascending_sublist (keep {x = x} s) a = (sublist_all (λ y. x <ℤ y) s a.0, ascending_sublist s a.1)

-- a sublist of a rising list rises
pub rising_sublist : {xs ys : List ℤ} → Sublist xs ys → Rising ys (length ys) → Rising xs (length xs)
rising_sublist {xs} {ys} s r = rising_from xs (ascending_sublist s (ascending_from ys r))
