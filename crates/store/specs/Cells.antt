-- What a store means: a list of cells. What its functions answer and leave is said of such lists.
use Rattle.std.specs.Prelude.{◌≡◌, ℕ, ◌+◌, min, Bool, true, cond, ◌&&◌, List, [], ◌∷◌, ◌++◌, length, take, drop, replicate, ℤ, pos, neg_ℤ, ◌≤ℤ◌, Ok, Err, Result, int_le, nat_lt, slice_index_or, slice_set}
use Rattle.fault.specs.declared.StoreError.{StoreError}
use Rattle.fault.specs.declared.StoreError.TheVariants.{NoCell}

-- what a cell can hold
abbrev pub Cell : ℤ → Type 0
Cell z = (neg_ℤ (pos 2147483648) ≤ℤ z) × (z ≤ℤ pos 2147483647)

-- the same as a test, of each cell of a list
abbrev pub all_cells : List ℤ → Bool
all_cells [] = true
all_cells (z ∷ zs) = (int_le (neg_ℤ (pos 2147483648)) z && int_le z (pos 2147483647)) && all_cells zs

-- what `get n` answers
abbrev pub cell_at : List ℤ → ℕ → Result ℤ StoreError
cell_at xs n = cond (nat_lt n (length xs)) (Ok (slice_index_or xs n (pos 0))) (Err NoCell)

-- what `put n v` answers; it leaves `slice_set xs n v`, which is xs itself where there is no cell n
abbrev pub placed : List ℤ → ℕ → Result (Unit {0}) StoreError
placed xs n = cond (nat_lt n (length xs)) (Ok tt) (Err NoCell)

-- the cells from `first` on, `len` at most, as far as they exist
abbrev pub window : ℕ → ℕ → List ℤ → List ℤ
window first len xs = take len (drop first xs)

-- two lists that are the same outside that window
abbrev pub Around : ℕ → ℕ → List ℤ → List ℤ → Type 0
Around first len xs ys = (take first xs ≡ take first ys) × (drop (first + len) xs ≡ drop (first + len) ys)

-- xs after a put of v at cell n of that window: one cell is another, or none where the window has no cell n
abbrev pub put_within : ℕ → ℕ → List ℤ → ℕ → ℤ → List ℤ
put_within first len xs n v = cond (nat_lt n (length (window first len xs))) (slice_set xs (first + n) v) xs

-- xs with 0 in its first n cells, as far as they exist
abbrev pub cleared : ℕ → List ℤ → List ℤ
cleared n xs = replicate (min n (length xs)) (pos 0) ++ drop n xs

-- ys with what xs has at its front, as far as both go
abbrev pub copied : List ℤ → List ℤ → List ℤ
copied xs ys = take (length ys) xs ++ drop (length xs) ys
