-- What a line buffer holds.
use Rattle.std.specs.Prelude.{◌≡◌, ℕ, ◌<◌, ◌≤◌, List, ◌∷◌, ◌++◌, length, drop, Option, Result, MatchOption}
use Rattle.std.specs.Borrow.{Bor}
use Rattle.rows.specs.Judged.{Gives, Unless}
use Rattle.rows.specs.declared.refusal.Refusal.{Refusal}
use Rattle.rows.specs.declared.refusal.Refusal.TheVariants.{LongLine}
use Rattle.fields.specs.Parts.{Without}
use Rattle.format.specs.Lines.{lines, opened}
use Rattle.format.specs.declared.line.LineBuffer.{LineBuffer}

-- the bytes that came are xs: they are kept if there are at most 80, else only that there were more is known
abbrev pub Holds : LineBuffer → List ℕ → Type 0
Holds b xs = MatchOption b.kept (80 < length xs) (λ kept. (length xs ≤ 80) × (kept.items ≡ xs))

-- the line xs, unless it is too long
abbrev pub LineJudged : List ℕ → Result (Bor (List ℕ)) Refusal → Type 0
LineJudged xs = Unless LongLine (length xs ≤ 80) (Gives (λ line. line.now ≡ xs))

-- the bytes after xs do not end the line
abbrev pub GoesOn : List ℕ → List ℕ → LineBuffer → Type 0
GoesOn xs bytes after = Holds after (xs ++ bytes) × Without 10 (xs ++ bytes) × (lines (xs ++ bytes) ≡ opened (xs ++ bytes))

-- the first n bytes after xs end the line, whatever comes after them all; then the other lines follow
abbrev pub Ends : List ℕ → List ℕ → ℕ → LineBuffer → Type 0
Ends xs bytes n after =
    (line : List ℕ) × Holds after line × (n ≤ length bytes) × ((rest : List ℕ) → lines (xs ++ (bytes ++ rest)) ≡ line ∷ lines (drop n bytes ++ rest))

-- a buffer that holds the beginning of a line takes bytes up to the line's end
abbrev pub Taken : LineBuffer → List ℕ → Option ℕ → LineBuffer → Type 0
Taken before bytes r after = (xs : List ℕ) → Holds before xs → Without 10 xs → MatchOption r (GoesOn xs bytes after) (λ n. Ends xs bytes n after)
