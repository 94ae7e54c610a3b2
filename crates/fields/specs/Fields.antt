-- The fields of a line, and how a reader hands them out.
use Rattle.std.specs.Prelude.{◌≡◌, ℕ, cond, List, [], ◌∷◌, length, drop, Option, MatchOption, nat_le}
use Rattle.std.specs.Borrow.{Bor}
use Rattle.fields.specs.Numeral.{IsNumber}
use Rattle.fields.specs.Parts.{parts}
use Rattle.fields.specs.declared.token.Fields.{Fields}
use Rattle.fields.specs.declared.token.Token.{Token}
use Rattle.fields.specs.declared.token.Token.TheVariants.{Word, Number}

-- the parts between the commas
abbrev pub fields : List ℕ → List (List ℕ)
fields line = parts 44 line

-- the fields from index i on, where one begins; past the line's end there are none
abbrev pub fields_from : List ℕ → ℕ → List (List ℕ)
fields_from line i = cond (nat_le i (length line)) (fields (drop i line)) []

-- the fields that a reader has yet to hand out
abbrev pub left : Fields → List (List ℕ)
left f = fields_from f.line.now f.next

abbrev pub bytes_of : Token → List ℕ
bytes_of (Word bs) = bs.now
bytes_of (Number bs) = bs.now

-- a token is a number exactly where its bytes are one
abbrev pub Told : Token → Type 0
Told (Word bs) = IsNumber bs.now → ⊥
Told (Number bs) = IsNumber bs.now

-- what was left is x, which begins at the place told, and then what is left now; the line stays
abbrev pub Next : Fields → List ℕ → Fields → Type 0
Next before x after =
    (left before ≡ x ∷ left after) × (after.line.now ≡ before.line.now)
    × (fields_from after.line.now after.place ≡ left before)

-- a call hands out the bytes of the first field that is left
abbrev pub FieldHanded : Fields → Option (Bor (List ℕ)) → Fields → Type 0
FieldHanded before r after = MatchOption r ((left before ≡ []) × (after ≡ before)) (λ x. Next before x.now after)

-- a call hands out the token of the first field that is left
abbrev pub TokenHanded : Fields → Option Token → Fields → Type 0
TokenHanded before r after = MatchOption r ((left before ≡ []) × (after ≡ before)) (λ t. Next before (bytes_of t) after × Told t)
