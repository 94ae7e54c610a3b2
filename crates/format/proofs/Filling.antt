-- Fields that are read as numbers one after another: what is kept, when to stop, and how many there can be.
use Rattle.std.proofs.Common.{◌≡◌, ℕ, suc, ◌+◌, ◌*◌, ◌<◌, ◌≤◌, eqb, List, [], ◌∷◌, ◌++◌, map, length, ℤ, pos, negsuc, sym, refl, ap, ◌∙◌, subst, append_assoc, arith}
use lib.ListN.{length-map}
use Rattle.std.specs.Fmt.{signed_decimal}
use Rattle.std.specs.List.{AllByRecursion}
use Rattle.std.proofs.lemmas.Fmt.{decimal_nonempty}
use Rattle.std.proofs.ByRecursion.{All-push}
use Rattle.std.proofs.lemmas.List.{map_push}
use Rattle.std.proofs.lemmas.Bool.{cond_both}
use Rattle.fields.specs.Numeral.{Writes, IsNumber}
use Rattle.fields.specs.Parts.{led, parts}
use Rattle.fields.proofs.Cutting.{some_part}
use Rattle.format.specs.Steps.{sized}

-- zs are the numbers of the fields before those left
pub record Filled (fs left : List (List ℕ)) (zs : List ℤ) : Type 0 where
  pub split : map signed_decimal zs ++ left ≡ fs
  pub numbers : AllByRecursion IsNumber (map signed_decimal zs)

some_bytes : (x : List ℕ) → IsNumber x → 0 < length x
some_bytes x (pos n, w) = omega (arith, ap length w.0, decimal_nonempty n (omega arith))
some_bytes x (negsuc n, w) = omega (arith, ap length w.0)

sized_append : (xs ys : List (List ℕ)) → sized (xs ++ ys) ≡ sized xs + sized ys
sized_append [] ys = omega arith
sized_append (x ∷ xs) ys = omega (arith, sized_append xs ys)

numbers_sized : (xs : List (List ℕ)) → AllByRecursion IsNumber xs → 2 * length xs ≤ sized xs
numbers_sized [] h = omega arith
numbers_sized (x ∷ xs) h = omega (arith, some_bytes x h.0, numbers_sized xs h.1)

all_at : (P : List ℕ → Type 0) (xs : List (List ℕ)) (y : List ℕ) (ys : List (List ℕ)) → AllByRecursion P (xs ++ y ∷ ys) → P y
all_at P [] y ys h = h.0
all_at P (x ∷ xs) y ys h = all_at P xs y ys h.1

-- of the fields left, x is the first
module _ (fs left rest : List (List ℕ)) (zs : List ℤ) (x : List ℕ) (f : Filled fs left zs) (first : left ≡ x ∷ rest) where
  whole : map signed_decimal zs ++ x ∷ rest ≡ fs
  whole = ap (λ l. map signed_decimal zs ++ l) (sym first) ∙ f.split

  pub filled_more : (z : ℤ) → Writes x z → Filled fs rest (zs ++ z ∷ [])
  filled_more z w = record {
    split = ap (λ l. l ++ rest) (map_push signed_decimal zs z) ∙ append_assoc (map signed_decimal zs) (signed_decimal z ∷ []) rest ∙ ap (λ y. map signed_decimal zs ++ y ∷ rest) (sym w.0) ∙ whole;
    numbers = subst (AllByRecursion IsNumber) (sym (map_push signed_decimal zs z)) (All-push IsNumber (map signed_decimal zs) (signed_decimal z) f.numbers (z, (refl, w.1)));
  }

  pub filled_stop : (IsNumber x → ⊥) → AllByRecursion IsNumber fs → ⊥
  filled_stop none all = none (all_at IsNumber (map signed_decimal zs) x rest (subst (AllByRecursion IsNumber) (sym whole) all))

  -- each number takes two bytes or more
  pub filled_room : sized fs ≤ 81 → IsNumber x → length zs < 40
  filled_room short n =
      omega (arith, ap sized whole, sized_append (map signed_decimal zs) (x ∷ rest), numbers_sized (map signed_decimal zs) f.numbers, some_bytes x n, length-map zs signed_decimal)

-- a line's fields are as large as the line
pub sized_parts : (sep : ℕ) (bs : List ℕ) → sized (parts sep bs) ≡ length bs + 1
sized_parts sep [] = refl
sized_parts sep (b ∷ bs) =
    let s = some_part sep bs in
    let old = sized_parts sep bs in
    let e = ap sized s.2 in
    cond_both (eqb b sep) _ _ (λ ps. sized ps ≡ suc (length bs) + 1) (λ is. omega arith) (λ other. ap (λ ps. sized (led b ps)) s.2 ∙ omega arith)
