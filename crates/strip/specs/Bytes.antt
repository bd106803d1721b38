-- What bytes mean as cells: four bytes a cell, the highest first, in two's complement.
use Rattle.std.specs.Prelude.{◌≡◌, ℕ, ◌+◌, ◌*◌, ◌/◌, ◌%◌, min, cond, Some, None, Option, List, [], ◌∷◌, map, length, drop, ℤ, nat_lt, slice_index, slice_set}
use Rattle.std.specs.Int.{w32}
use Rattle.std.proofs.Common.{to_z, of_z}
use Rattle.std.specs.List.{range_with_len}

-- the number that four bytes are, the highest first: from 2147483648 on they stand for that much less 4294967296
abbrev pub number : ℕ → ℕ → ℕ → ℕ → ℤ
number a b c d = to_z w32 (a * 16777216 + b * 65536 + c * 256 + d)

-- the four bytes of a number, the highest first
abbrev pub bytes_of : ℤ → List ℕ
bytes_of v = (of_z w32 v / 16777216 % 256) ∷ (of_z w32 v / 65536 % 256) ∷ (of_z w32 v / 256 % 256) ∷ (of_z w32 v % 256) ∷ []

-- cell n of some bytes
abbrev pub cell_of : List ℕ → ℕ → ℤ
cell_of bs n = number (slice_index bs (4 * n)) (slice_index bs (4 * n + 1)) (slice_index bs (4 * n + 2)) (slice_index bs (4 * n + 3))

-- the four bytes at `at` and after it
abbrev pub four : List ℕ → ℕ → List ℕ
four bs at = slice_index bs at ∷ slice_index bs (at + 1) ∷ slice_index bs (at + 2) ∷ slice_index bs (at + 3) ∷ []

-- as many cells as are whole, 4,096 at most
abbrev pub strip_count : List ℕ → ℕ
strip_count bs = min (length bs / 4) 4096

-- the four bytes of cell n, where there is one
abbrev pub cell_bytes : List ℕ → ℕ → Option (List ℕ)
cell_bytes bs n = cond (nat_lt n (strip_count bs)) (Some (four bs (4 * n))) None

abbrev pub strip_cells : List ℕ → List ℤ
strip_cells bs = map (cell_of bs) (range_with_len 0 (strip_count bs))

-- the bytes that no cell has, after the last whole cell or beyond the 4,096th, are the same in both, and there are as many
abbrev pub Leftover : List ℕ → List ℕ → Type 0
Leftover bs cs = (length bs ≡ length cs) × (drop (4 * strip_count bs) bs ≡ drop (4 * strip_count bs) cs)

-- four bytes in the place of those at `at` and after it
abbrev pub set4 : List ℕ → ℕ → List ℕ → List ℕ
set4 bs at ws = slice_set (slice_set (slice_set (slice_set bs at (slice_index ws 0)) (at + 1) (slice_index ws 1)) (at + 2) (slice_index ws 2)) (at + 3) (slice_index ws 3)

-- the bytes after a put of v into cell n: the four of that cell are those of v, all others stay; where there is no cell n, all stay
abbrev pub with_cell : List ℕ → ℕ → ℤ → List ℕ
with_cell bs n v = cond (nat_lt n (strip_count bs)) (set4 bs (4 * n) (bytes_of v)) bs
