-- Numbers and their bytes: they lead to one another, and worked examples.
use Rattle.std.specs.Prelude.{◌≡◌, ℕ, [], ◌∷◌, ℤ, pos, neg_ℤ}
use Rattle.store.specs.Cells.{Cell}
use Rattle.strip.specs.Bytes.{number, bytes_of, cell_of}

-- the bytes of a number are read as that number
abbrev pub ReadBack : Type 0
ReadBack = (v : ℤ) → Cell v → cell_of (bytes_of v) 0 ≡ v

abbrev pub Pair : ℤ → ℕ → ℕ → ℕ → ℕ → Type 0
Pair v a b c d = (bytes_of v ≡ a ∷ b ∷ c ∷ d ∷ []) × (number a b c d ≡ v)

abbrev pub Examples : Type 0
Examples =
    Pair (pos 0) 0 0 0 0
    × Pair (pos 1) 0 0 0 1
    × Pair (pos 305419896) 18 52 86 120
    × Pair (pos 2147483647) 127 255 255 255
    × Pair (neg_ℤ (pos 1)) 255 255 255 255
    × Pair (neg_ℤ (pos 256)) 255 255 255 0
    × Pair (neg_ℤ (pos 2147483647)) 128 0 0 1
    × Pair (neg_ℤ (pos 2147483648)) 128 0 0 0
