-- The elements that a mask chooses: a sublist, and every sublist is chosen by some mask.
use Rattle.std.proofs.Common.{◌≡◌, ℕ, ◌+◌, ◌*◌, ◌/◌, ◌%◌, ◌^◌, ◌<◌, eqb, List, [], ◌∷◌, length, ℤ, refl, ap, ◌∙◌, arith}
use native.Mathlib.Nat.{pow-succ'}
use Rattle.std.proofs.lemmas.Bool.{cond-true, cond-false, cond_both}
use Rattle.std.proofs.lemmas.Bool.Decides.{nat_tests}
use Rattle.rows.specs.Sublist.{Sublist, nothing, leave, keep}
use Rattle.rows.specs.Pool.{chosen}

pub chosen_part : (xs : List ℤ) (mask : ℕ) → Sublist (chosen xs mask) xs
chosen_part [] mask = nothing
chosen_part (x ∷ xs) mask = cond_both (eqb (mask % 2) 1) (x ∷ chosen xs (mask / 2)) (chosen xs (mask / 2)) (λ l. Sublist l (x ∷ xs))
    (λ e. keep (chosen_part xs (mask / 2)))
    (λ e. leave (chosen_part xs (mask / 2)))

chosen_set : (x : ℤ) (xs : List ℤ) (mask : ℕ) → mask % 2 ≡ 1 → chosen (x ∷ xs) mask ≡ x ∷ chosen xs (mask / 2)
chosen_set x xs mask e = cond-true (eqb (mask % 2) 1) (x ∷ chosen xs (mask / 2)) (chosen xs (mask / 2)) (grind (arith, nat_tests))

chosen_clear : (x : ℤ) (xs : List ℤ) (mask : ℕ) → (mask % 2 ≡ 1 → ⊥) → chosen (x ∷ xs) mask ≡ chosen xs (mask / 2)
chosen_clear x xs mask e = cond-false (eqb (mask % 2) 1) (x ∷ chosen xs (mask / 2)) (chosen xs (mask / 2)) (grind (arith, nat_tests))

-- every sublist is chosen by some mask
pub reached : {ys xs : List ℤ} → Sublist ys xs → (mask : ℕ) × (mask < 2 ^ length xs) × (chosen xs mask ≡ ys)
reached nothing = (0, omega arith, refl)
reached (leave {x = x} {xs = xs} s) =
    let r = reached s in
    let k = r.0 in
    let h : (2 * k) / 2 ≡ k = omega arith in
    (2 * k, rw pow-succ' (omega (arith, r.1)), chosen_clear x xs (2 * k) (omega arith) ∙ ap (chosen xs) h ∙ r.2)
reached (keep {x = x} {xs = xs} s) =
    let r = reached s in
    let k = r.0 in
    let h : (2 * k + 1) / 2 ≡ k = omega arith in
    (2 * k + 1, rw pow-succ' (omega (arith, r.1)), chosen_set x xs (2 * k + 1) (omega arith) ∙ ap (λ j. x ∷ chosen xs j) h ∙ ap (λ l. x ∷ l) r.2)
