-- A line that is read field by field: its word, its numbers, and what it is written with.
use Rattle.std.proofs.Common.{◌≡◌, ℕ, ◌≤◌, Bool, true, List, [], ◌∷◌, map, length, get_or, ℤ, pos, Some, None, Ok, Option, sym, refl, ap, ◌∙◌, subst, arith}
use Rattle.std.specs.Fmt.{signed_decimal}
use Rattle.fields.specs.Fields.{fields}
use Rattle.fields.proofs.Cutting.{some_part}
use Rattle.words.specs.Words.{WordRead}
use Rattle.format.specs.Command.{first_field, later_fields, written}
use Rattle.format.specs.Steps.{sized, WordHanded, WordJudged}
use Rattle.format.proofs.Filling.{sized_parts}

-- a line is its first field and the later ones
pub first_and_later : (line : List ℕ) → fields line ≡ first_field line ∷ later_fields line
first_and_later line = let s = some_part 44 line in rw s.2 refl

-- the first field is handed out as a word, and the later ones are left
pub word_first : {W : Type 0} (spelling : W → List ℕ) (line : List ℕ) (before : List (List ℕ)) (r : Option W) (after : List (List ℕ)) → before ≡ fields line → WordHanded spelling before r after → WordRead spelling (first_field line) r × (after ≡ later_fields line)
word_first spelling line before r after e h = subst (λ l. WordHanded spelling l r after) (e ∙ first_and_later line) h

pub short_later : (line : List ℕ) → length line ≤ 80 → sized (later_fields line) ≤ 81
short_later line h = omega (arith, sized_parts 44 line, ap sized (first_and_later line))

pub four : (xs : List ℤ) → length xs ≡ 4 → get_or xs 0 (pos 0) ∷ get_or xs 1 (pos 0) ∷ get_or xs 2 (pos 0) ∷ get_or xs 3 (pos 0) ∷ [] ≡ xs
four [] h = absurd (omega arith)
four (a ∷ []) h = absurd (omega arith)
four (a ∷ b ∷ []) h = absurd (omega arith)
four (a ∷ b ∷ c ∷ []) h = absurd (omega arith)
four (a ∷ b ∷ c ∷ d ∷ []) h = refl
four (a ∷ b ∷ c ∷ d ∷ e ∷ xs) h = absurd (omega arith)

-- the word of a line that was not refused for its word or its count
pub judged_ok : {W : Type 0} (spelling : W → List ℕ) (counts : W → ℕ → Bool) (o : Option W) (n : ℕ) (w : W) (first : List ℕ) → WordRead spelling first o → WordJudged counts o n (Ok w) → (first ≡ spelling w) × (counts w n ≡ true)
judged_ok spelling counts None n w first r j = absurd j.0
judged_ok spelling counts (Some v) n w first r j = (r ∙ ap spelling (sym j.1), subst (λ x. counts x n ≡ true) (sym j.1) j.0)

pub whole_line : {W : Type 0} (spelling : W → List ℕ) (w : W) (line : List ℕ) (zs : List ℤ) (ls : List (List ℕ)) → first_field line ≡ spelling w → map signed_decimal zs ≡ ls → ls ≡ later_fields line → fields line ≡ written spelling w zs
whole_line spelling w line zs later f m l = first_and_later line ∙ ap (λ x. x ∷ later_fields line) f ∙ ap (λ ls. spelling w ∷ ls) (sym (m ∙ l))
