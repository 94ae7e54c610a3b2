-- A number put into a list by order: what the list then holds, that it rises, and one step of the code.
use Rattle.std.proofs.Common.{◌≡◌, ℕ, ◌+◌, ◌<◌, Bool, true, false, cond, List, [], ◌∷◌, ◌++◌, length, get_or, drop, ℤ, pos, ◌<ℤ◌, sym, refl, ap, ◌∙◌, subst, arith}
use lib.Signed.{lt_z}
use Rattle.std.specs.Int.{int_min, int_max}
use Rattle.std.specs.List.{AllByRecursion}
use Rattle.std.proofs.lemmas.List.{append_assoc, drop_more}
use Rattle.std.proofs.lemmas.Int.{ints}
use Rattle.std.proofs.lemmas.Bool.{cond-false, cond_both}
use Rattle.rows.specs.Rising.{Rising}
use Rattle.rows.specs.Pool.{inserted}
use Rattle.rows.proofs.Rise.{Ascending, ascending_from, rising_from, ascending_drop, below_all}

-- the list cut in two, and the number put between
pub record Between (h : ℤ) (xs ys : List ℤ) : Type 0 where
  pub before : List ℤ
  pub after : List ℤ
  pub whole : xs ≡ before ++ after
  pub joined : ys ≡ before ++ (h ∷ after)

pub between : (h : ℤ) (xs : List ℤ) → Between h xs (inserted h xs)
between h [] = record { before = []; after = []; whole = refl; joined = refl }
between h (x ∷ xs) = cond_both (lt_z x h) (x ∷ inserted h xs) (h ∷ (x ∷ xs)) (Between h (x ∷ xs))
    (λ e. let b = between h xs in record { before = x ∷ b.before; after = b.after; whole = ap (λ l. x ∷ l) b.whole; joined = ap (λ l. x ∷ l) b.joined })
    (λ e. record { before = []; after = x ∷ xs; whole = refl; joined = refl })

pub all_inserted : (P : ℤ → Type 0) (h : ℤ) (xs : List ℤ) → P h → AllByRecursion P xs → AllByRecursion P (inserted h xs)
all_inserted P h [] p a = (p, tt)
all_inserted P h (x ∷ xs) p a = cond_both (lt_z x h) (x ∷ inserted h xs) (h ∷ (x ∷ xs)) (AllByRecursion P)
    (λ e. (a.0, all_inserted P h xs p a.1))
    (λ e. (p, a))

ascending_inserted : (h : ℤ) (xs : List ℤ) → Ascending xs → AllByRecursion (λ x. x ≡ h → ⊥) xs → Ascending (inserted h xs)
ascending_inserted h [] a n = (tt, tt)
ascending_inserted h (x ∷ xs) a n = cond_both (lt_z x h) (x ∷ inserted h xs) (h ∷ (x ∷ xs)) Ascending
    (λ e. let l : x <ℤ h = grind (arith, ints) in (all_inserted (λ y. x <ℤ y) h xs l a.0, ascending_inserted h xs a.1 n.1))
    (λ e. let d = n.0 in let l : h <ℤ x = grind (arith, ints) in ((l, below_all h x xs l a.0), a))

-- a rising list with a number put in that it does not hold rises
pub rising_inserted : (h : ℤ) (xs : List ℤ) → Rising xs (length xs) → AllByRecursion (λ x. x ≡ h → ⊥) xs → Rising (inserted h xs) (length (inserted h xs))
rising_inserted h xs r n = rising_from (inserted h xs) (ascending_inserted h xs (ascending_from xs r) n)

inserted_first : (h : ℤ) (xs : List ℤ) → AllByRecursion (λ x. h <ℤ x) xs → inserted h xs ≡ h ∷ xs
inserted_first h [] a = refl
inserted_first h (x ∷ xs) a = let l = a.0 in cond-false (lt_z x h) (x ∷ inserted h xs) (h ∷ (x ∷ xs)) (grind (arith, ints))

-- the smaller of the two comes first, and the larger is still to be put in
inserted_more : (next x : ℤ) (rest : List ℤ) → AllByRecursion (λ y. x <ℤ y) rest → inserted next (x ∷ rest) ≡ int_min next x ∷ inserted (int_max next x) rest
inserted_more next x rest a = go (lt_z x next)
  where
    go : (b : Bool) → cond b (x ∷ inserted next rest) (next ∷ (x ∷ rest)) ≡ cond b x next ∷ inserted (cond b next x) rest
    go true = refl
    go false = ap (λ l. next ∷ l) (sym (inserted_first x rest a))

-- one turn of the loop: the smaller is put last
pub put_more : (front xs : List ℤ) (i : ℕ) (next : ℤ) → i < length xs → Ascending xs →
    let x = get_or xs i (pos 0) in
    (front ++ (int_min next x ∷ [])) ++ inserted (int_max next x) (drop (i + 1) xs) ≡ front ++ inserted next (drop i xs)
put_more front xs i next k a =
    let x = get_or xs i (pos 0) in
    let rest = drop (i + 1) xs in
    let d = drop_more xs i (pos 0) k in
    let above = (subst Ascending d (ascending_drop i xs a)).0 in
    append_assoc front (int_min next x ∷ []) (inserted (int_max next x) rest)
    ∙ ap (λ l. front ++ l) (sym (inserted_more next x rest above))
    ∙ ap (λ l. front ++ inserted next l) (sym d)
