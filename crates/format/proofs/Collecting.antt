-- Bytes that are collected into a line: what is kept of them, and which lines of the file they make.
use Rattle.std.proofs.Common.{◌≡◌, ℕ, zero, suc, ◌+◌, ◌<◌, ◌≤◌, eqb, List, [], ◌∷◌, ◌++◌, length, get_or, take, drop, sym, refl, ap, ◌∙◌, subst, append_assoc, arith, take-append-drop, take_all}
use Rattle.std.proofs.ByRecursion.{All-append}
use Rattle.std.proofs.lemmas.List.{drop_more}
use Rattle.std.proofs.lemmas.Bool.{cond-false, ne_eqb}
use Rattle.fields.specs.Parts.{led, Without}
use Rattle.fields.proofs.Cutting.{Free}
use Rattle.format.specs.Lines.{lines, opened}

-- bytes with no byte 10 among them
pub lines_open : (xs : List ℕ) → Without 10 xs → lines xs ≡ opened xs
lines_open [] w = refl
lines_open (x ∷ xs) w = cond-false (eqb x 10) _ _ (ne_eqb x 10 w.0) ∙ ap (led x) (lines_open xs w.1) ∙ led_opened x xs
  where
    led_opened : (x : ℕ) (xs : List ℕ) → led x (opened xs) ≡ opened (x ∷ xs)
    led_opened x [] = refl
    led_opened x (y ∷ xs) = refl

-- the first byte 10 ends the first line
pub lines_end : (xs rest : List ℕ) → Without 10 xs → lines (xs ++ 10 ∷ rest) ≡ xs ∷ lines rest
lines_end [] rest w = refl
lines_end (x ∷ xs) rest w = cond-false (eqb x 10) _ _ (ne_eqb x 10 w.0) ∙ ap (led x) (lines_end xs rest w.1)

without_append : (xs ys : List ℕ) → Without 10 xs → Without 10 ys → Without 10 (xs ++ ys)
without_append = All-append (λ b. b ≡ 10 → ⊥)

without_take : (bs : List ℕ) (n : ℕ) → n ≤ length bs → Free 10 bs n → Without 10 (take n bs)
without_take bs zero h free = tt
without_take [] (suc n) h free = tt
without_take (b ∷ bs) (suc n) h free = (free 0 (omega arith), without_take bs n (omega arith) (λ k l. free (suc k) (omega arith)))

-- after xs come bytes of which the byte 10 at n is the first
pub end_at : (xs bytes : List ℕ) (n : ℕ) → Without 10 xs → n < length bytes → Free 10 bytes n → get_or bytes n 0 ≡ 10 → (rest : List ℕ) → lines (xs ++ (bytes ++ rest)) ≡ (xs ++ take n bytes) ∷ lines (drop (n + 1) bytes ++ rest)
end_at xs bytes n w less free is rest =
    let front = take n bytes in
    let back = drop (n + 1) bytes in
    let cut : bytes ≡ front ++ 10 ∷ back = sym (take-append-drop n bytes) ∙ ap (λ l. front ++ l) (drop_more bytes n 0 less ∙ ap (λ b. b ∷ back) is) in
    ap (λ l. lines (xs ++ (l ++ rest))) cut
    ∙ ap (λ l. lines (xs ++ l)) (append_assoc front (10 ∷ back) rest)
    ∙ ap lines (sym (append_assoc xs front (10 ∷ (back ++ rest))))
    ∙ lines_end (xs ++ front) (back ++ rest) (without_append xs front w (without_take bytes n (omega arith) free))

-- after xs come bytes without a byte 10
pub no_end : (xs bytes : List ℕ) → Without 10 xs → Free 10 bytes (length bytes) → Without 10 (xs ++ bytes)
no_end xs bytes w free = without_append xs bytes w (subst (Without 10) (take_all (length bytes) bytes (omega arith)) (without_take bytes (length bytes) (omega arith) free))
