-- What holds of every store.
use Rattle.std.specs.Prelude.{◌≡◌, ℕ, ◌<◌, List, length, ℤ, Ok, ◌≢◌, slice_set}
use Rattle.std.specs.List.{AllByRecursion}
use Rattle.store.specs.Cells.{Cell, cell_at}

-- of its cells: they are fewer than 65,536, and each holds 32 bits
pub record Bounds {S : Type 0} (cells : S → List ℤ) : Type 0 where
  pub few : (s : S) → length (cells s) < 65536
  pub narrow : (s : S) → AllByRecursion Cell (cells s)

-- of all that is no cell: what stays the same over two changes stays the same over both
pub record Steady {S : Type 0} (beside : S → S → Type 0) : Type 0 where
  pub same : (s : S) → beside s s
  pub along : (s t u : S) → beside s t → beside t u → beside s u

-- a store remembers: after a put of v at cell n, that cell is v, each other is what it was, and there are as many
abbrev pub Remembers : Type 0
Remembers = (xs : List ℤ) (n : ℕ) (v : ℤ) →
    (n < length xs → cell_at (slice_set xs n v) n ≡ Ok v)
    × ((m : ℕ) → (m ≢ n) → cell_at (slice_set xs n v) m ≡ cell_at xs m)
    × (length (slice_set xs n v) ≡ length xs)
