-- What a line says, and what it is refused for.
use Rattle.std.specs.Prelude.{◌≡◌, ℕ, ◌≤◌, Bool, true, List, [], ◌∷◌, map, length, drop, ℤ, pos, Result, slice_index_or}
use Rattle.std.specs.Fmt.{signed_decimal}
use Rattle.std.specs.List.{AllByRecursion}
use Rattle.rows.specs.Judged.{Gives, Unless}
use Rattle.rows.specs.declared.refusal.Refusal.{Refusal}
use Rattle.rows.specs.declared.refusal.Refusal.TheVariants.{LongLine, UnknownWord, FieldCount, NoNumber, SeedRange}
use Rattle.fields.specs.Fields.{fields}
use Rattle.fields.specs.Numeral.{IsNumber}
use Rattle.words.specs.Words.{Listed, header_spelling, header_counts, command_spelling, command_counts}
use Rattle.words.specs.declared.keyword.CommandWord.{CommandWord}
use Rattle.words.specs.declared.keyword.CommandWord.TheVariants as command
use Rattle.words.specs.declared.keyword.HeaderWord.{HeaderWord}
use Rattle.words.specs.declared.keyword.HeaderWord.TheVariants as header
use Rattle.rows.specs.Numbers.{numbers_in}
use Rattle.format.specs.Seed.{WritesSeed}
use Rattle.format.specs.declared.command.Command.{Command}
use Rattle.format.specs.declared.command.Command.TheVariants.{Row, Strike, Restore, Check, Shuffle, Settle}
use Rattle.format.specs.declared.command.Header.{Header}
use Rattle.format.specs.declared.command.Header.TheVariants.{Disc, Plane, Bounds}

-- the field that should be a word, and those that should be numbers
abbrev pub first_field : List ℕ → List ℕ
first_field line = slice_index_or (fields line) 0 []

abbrev pub later_fields : List ℕ → List (List ℕ)
later_fields line = drop 1 (fields line)

-- the line begins with a word that takes so many fields
abbrev pub Counted : {W : Type 0} → (W → List ℕ) → (W → ℕ → Bool) → List ℕ → Type 0
Counted {W} spelling counts line = (w : W) × (first_field line ≡ spelling w) × (counts w (length (fields line)) ≡ true)

-- a line of one of the words: refused for the first of its faults, else K says the rest
abbrev pub AfterFaults : {W T : Type 0} → (W → List ℕ) → (W → ℕ → Bool) → (Result T Refusal → Type 0) → List ℕ → Result T Refusal → Type 0
AfterFaults spelling counts K line =
    Unless LongLine (length line ≤ 80)
    (Unless UnknownWord (Listed spelling (first_field line))
    (Unless FieldCount (Counted spelling counts line)
    (Unless NoNumber (AllByRecursion IsNumber (later_fields line))
    K)))

-- a line of one of the words: refused for the first of its faults, else P holds of what it gives
abbrev pub LineRead : {W T : Type 0} → (W → List ℕ) → (W → ℕ → Bool) → (T → Type 0) → List ℕ → Result T Refusal → Type 0
LineRead spelling counts P line = AfterFaults spelling counts (Gives P) line

-- the fields of a line with a word and numbers
abbrev pub written : {W : Type 0} → (W → List ℕ) → W → List ℤ → List (List ℕ)
written spelling w zs = spelling w ∷ map signed_decimal zs

-- what each header is written with
abbrev pub header_word : Header → HeaderWord
header_word Disc = header.Disc
header_word (Plane p q) = header.Plane
header_word Bounds = header.Bounds

abbrev pub header_values : Header → List ℤ
header_values Disc = []
header_values (Plane p q) = p ∷ q ∷ []
header_values Bounds = []

-- what each command is written with
abbrev pub command_word : Command → CommandWord
command_word (Row numbers) = command.Row
command_word (Strike position) = command.Strike
command_word (Restore position) = command.Restore
command_word (Check positions) = command.Check
command_word (Shuffle seed) = command.Shuffle
command_word Settle = command.Settle

abbrev pub command_values : Command → List ℤ
command_values (Row numbers) = numbers.a ∷ numbers.b ∷ numbers.c ∷ numbers.parish ∷ []
command_values (Strike position) = position ∷ []
command_values (Restore position) = position ∷ []
command_values (Check positions) = numbers_in positions
command_values (Shuffle seed) = pos seed ∷ []
command_values Settle = []

-- after the word shuffle come seeds
abbrev pub Seeded : List (List ℕ) → Type 0
Seeded [] = Unit {0}
Seeded (word ∷ later) = word ≡ command_spelling command.Shuffle → AllByRecursion WritesSeed later

-- the command that the fields write; refused where a seed is out of range
abbrev pub CommandWritten : List (List ℕ) → Result Command Refusal → Type 0
CommandWritten fs = Unless SeedRange (Seeded fs) (Gives (λ c. fs ≡ written command_spelling (command_word c) (command_values c)))

-- line 1: the header that is written so
abbrev pub HeaderRead : List ℕ → Result Header Refusal → Type 0
HeaderRead line = LineRead header_spelling header_counts (λ h. fields line ≡ written header_spelling (header_word h) (header_values h)) line

-- a later line: the command that is written so, unless its seed is out of range
abbrev pub CommandRead : List ℕ → Result Command Refusal → Type 0
CommandRead line = AfterFaults command_spelling command_counts (CommandWritten (fields line)) line
