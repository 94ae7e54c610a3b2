-- What it is for the first n numbers of a list to rise.
use Rattle.std.specs.Prelude.{ℕ, ◌+◌, ◌<◌, List, ℤ, pos, ◌<ℤ◌, slice_index_or}

abbrev pub Rising : List ℤ → ℕ → Type 0
Rising xs n = (i : ℕ) → i + 1 < n → slice_index_or xs i (pos 0) <ℤ slice_index_or xs (i + 1) (pos 0)
