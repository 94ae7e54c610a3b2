-- The steps by which a line is read: its word, the count of its fields, and its numbers.
use Rattle.std.specs.Prelude.{◌≡◌, ℕ, ◌+◌, Bool, true, List, [], ◌∷◌, length, map, Some, None, Option, Result}
use Rattle.std.specs.Fmt.{signed_decimal}
use Rattle.std.specs.List.{AllByRecursion}
use Rattle.rows.specs.Judged.{Gives, Unless}
use Rattle.rows.specs.Numbers.{numbers_in}
use Rattle.rows.specs.declared.numbers.Numbers.{Numbers}
use Rattle.rows.specs.declared.refusal.Refusal.{Refusal}
use Rattle.rows.specs.declared.refusal.Refusal.TheVariants.{UnknownWord, FieldCount, NoNumber}
use Rattle.fields.specs.Numeral.{IsNumber}
use Rattle.words.specs.Words.{WordRead}

-- the bytes of these fields, with a comma for each
abbrev pub sized : List (List ℕ) → ℕ
sized [] = 0
sized (f ∷ fs) = length f + 1 + sized fs

-- the numbers that the fields write; refused where a field writes none
abbrev pub NumbersRead : List (List ℕ) → Result (Numbers 40) Refusal → Type 0
NumbersRead fs = Unless NoNumber (AllByRecursion IsNumber fs) (Gives (λ n. map signed_decimal (numbers_in n) ≡ fs))

-- of the fields left, the first is read as a word
abbrev pub WordHanded : {W : Type 0} → (W → List ℕ) → List (List ℕ) → Option W → List (List ℕ) → Type 0
WordHanded spelling [] r after = r ≡ None
WordHanded spelling (f ∷ fs) r after = WordRead spelling f r × (after ≡ fs)

-- no word is refused as unknown, and a word for a count of fields that it does not take
abbrev pub WordJudged : {W : Type 0} → (W → ℕ → Bool) → Option W → ℕ → Result W Refusal → Type 0
WordJudged counts None count = Unless UnknownWord ⊥ (Gives (λ _. ⊥))
WordJudged counts (Some w) count = Unless FieldCount (counts w count ≡ true) (Gives (λ v. v ≡ w))
