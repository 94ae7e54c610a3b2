-- Sublists: of themselves, of one another, how long they are.
use Rattle.std.proofs.Common.{◌≤◌, List, [], ◌∷◌, length, arith}
use Rattle.std.specs.List.{AllByRecursion}
use Rattle.rows.specs.Sublist.{Sublist, nothing, leave, keep}

module _ {X : Type 0} where
  pub sublist_self : (xs : List X) → Sublist xs xs
  sublist_self [] = nothing
  sublist_self (x ∷ xs) = keep (sublist_self xs)

  pub sublist_trans : {ys zs : List X} → Sublist ys zs → {xs : List X} → Sublist xs ys → Sublist xs zs
  sublist_trans nothing s = s
  sublist_trans (leave t) s = leave (sublist_trans t s)
  sublist_trans (keep t) (leave s) = leave (sublist_trans t s)
  sublist_trans (keep t) (keep s) = keep (sublist_trans t s)

  pub sublist_length : {xs ys : List X} → Sublist xs ys → length xs ≤ length ys
  sublist_length nothing = omega arith
  sublist_length (leave s) = omega (arith, sublist_length s)
  sublist_length (keep s) = omega (arith, sublist_length s)

  pub sublist_all : (P : X → Type 0) {xs ys : List X} → Sublist xs ys → AllByRecursion P ys → AllByRecursion P xs
  sublist_all P nothing a = tt
  sublist_all P (leave s) a = sublist_all P s a.1
  sublist_all P (keep s) a = (a.0, sublist_all P s a.1)
