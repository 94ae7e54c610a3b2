-- What every register keeps, whatever its problem: the basis names open rows in use, and the order names each row in use once.
use Rattle.std.specs.Prelude.{◌≡◌, ℕ, ◌<◌, Bool, true, false, ◌&&◌, ◌||◌, List, [], ◌∷◌, length, take, ℤ, pos, ◌==◌, int_le, nat_lt, slice_index, slice_index_or, unsigned_abs}
use Rattle.rows.specs.Row.{row_at}
use Rattle.rows.specs.declared.row.Row.{Row}
use Rattle.rows.specs.declared.row.Mark.{Mark}
use Rattle.rows.specs.declared.row.Mark.TheVariants.{Open, Struck}

abbrev pub is_open : Mark → Bool
is_open Open = true
is_open Struck = false

-- whether position p has an open row
abbrev pub has_open : List Row → ℤ → Bool
has_open rows p = int_le (pos 0) p && (nat_lt (unsigned_abs p) (length rows) && is_open (row_at rows p).mark)

abbrev pub OnOpen : List Row → List ℤ → Type 0
OnOpen rows ps = (k : ℕ) → k < length ps → has_open rows (slice_index_or ps k (pos 0)) ≡ true

-- the first n entries are below n
abbrev pub AllBelow : List ℕ → ℕ → Type 0
AllBelow order n = (i : ℕ) → i < n → slice_index order i < n

-- whether k occurs in the list
abbrev pub occurs : ℕ → List ℕ → Bool
occurs k [] = false
occurs k (x ∷ xs) = x == k || occurs k xs

-- every number below n is among the first n entries
abbrev pub Covers : List ℕ → ℕ → Type 0
Covers order n = (k : ℕ) → k < n → occurs k (take n order) ≡ true
