-- The order that a seed gives.
use Rattle.std.specs.Prelude.{ℕ, zero, suc, ◌+◌, ◌-◌, ◌*◌, ◌/◌, ◌%◌, List, slice_index, slice_set}
use Rattle.std.specs.List.{range_with_len}
use Rattle.std.specs.List.Sorted.{IsPermutation}

abbrev pub next_seed : ℕ → ℕ
next_seed seed = (seed * 1664525 + 1013904223) % 4294967296

-- the place that changes contents with place i
abbrev pub swap_place : ℕ → ℕ → ℕ
swap_place seed i = (seed / 65536) % (i + 1)

-- places i and j have changed contents
abbrev pub swapped : List ℕ → ℕ → ℕ → List ℕ
swapped xs i j = slice_set (slice_set xs i (slice_index xs j)) j (slice_index xs i)

-- from place i down to place 1, each with a new seed
abbrev pub mixed : ℕ → ℕ → List ℕ → List ℕ
mixed zero seed xs = xs
mixed (suc i) seed xs = mixed i (next_seed seed) (swapped xs (suc i) (swap_place (next_seed seed) (suc i)))

-- the order of n rows: 0 to n - 1 rising, then mixed from the last place
abbrev pub shuffled : ℕ → ℕ → List ℕ
shuffled n seed = mixed (n - 1) seed (range_with_len 0 n)

-- the list has the numbers 0 to n - 1, each once, in some order
abbrev pub Permutes : List ℕ → ℕ → Type 0
Permutes xs n = IsPermutation (range_with_len 0 n) xs
