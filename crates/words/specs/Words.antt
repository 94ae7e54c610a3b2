-- The words that begin a line, and how many fields such a line has.
use Rattle.std.specs.Prelude.{◌≡◌, ℕ, Bool, List, codes, Option, MatchOption, ◌==◌, nat_le}
use Rattle.words.specs.declared.keyword.CommandWord.{CommandWord}
use Rattle.words.specs.declared.keyword.CommandWord.TheVariants as command
use Rattle.words.specs.declared.keyword.HeaderWord.{HeaderWord}
use Rattle.words.specs.declared.keyword.HeaderWord.TheVariants as header

abbrev pub header_spelling : HeaderWord → List ℕ
header_spelling header.Disc = codes "disc"
header_spelling header.Plane = codes "plane"
header_spelling header.Bounds = codes "box"

-- how many fields a line with the word may have, the word among them
abbrev pub header_counts : HeaderWord → ℕ → Bool
header_counts header.Disc n = n == 1
header_counts header.Plane n = n == 3
header_counts header.Bounds n = n == 1

abbrev pub command_spelling : CommandWord → List ℕ
command_spelling command.Row = codes "row"
command_spelling command.Strike = codes "strike"
command_spelling command.Restore = codes "restore"
command_spelling command.Check = codes "check"
command_spelling command.Shuffle = codes "shuffle"
command_spelling command.Settle = codes "settle"

-- how many fields a line with the word may have, the word among them
abbrev pub command_counts : CommandWord → ℕ → Bool
command_counts command.Row n = n == 5
command_counts command.Strike n = n == 2
command_counts command.Restore n = n == 2
command_counts command.Check n = nat_le 2 n
command_counts command.Shuffle n = n == 2
command_counts command.Settle n = n == 1

-- the bytes spell one of the words
abbrev pub Listed : {W : Type 0} → (W → List ℕ) → List ℕ → Type 0
Listed {W} spelling bytes = (w : W) × (bytes ≡ spelling w)

-- the word that the bytes spell
abbrev pub WordRead : {W : Type 0} → (W → List ℕ) → List ℕ → Option W → Type 0
WordRead spelling bytes r = MatchOption r (Listed spelling bytes → ⊥) (λ w. bytes ≡ spelling w)
