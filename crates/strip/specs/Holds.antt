-- Why the laws hold of a strip.
use Rattle.std.proofs.Common.{◌∙◌, arith, to_z}
use Rattle.std.specs.Prelude.{ℕ, ◌<◌, List, [], ◌∷◌, length}
use Rattle.std.specs.Int.{w32}
use Rattle.std.specs.List.{AllByRecursion, range_with_len}
use Rattle.std.proofs.lemmas.List.FromFn.{length-map-range_with_len}
use Rattle.std.proofs.ByRecursion.{All-map}
use Rattle.std.proofs.lemmas.Int.{ints}
use Rattle.store.specs.Cells.{Cell}
use Rattle.strip.specs.Bytes.{cell_of, strip_count, strip_cells, Leftover}

pub strip_few : (bs : List ℕ) → length (strip_cells bs) < 65536
strip_few bs = omega (arith, length-map-range_with_len (cell_of bs) 0 (strip_count bs))

-- whatever 32 bits mean is what a cell can hold
bits_narrow : (n : ℕ) → Cell (to_z w32 n)
bits_narrow n = (omega (arith, ints), omega (arith, ints))

all_of : {A : Type 0} (P : A → Type 0) → ((a : A) → P a) → (xs : List A) → AllByRecursion P xs
all_of P p [] = tt
all_of P p (x ∷ xs) = (p x, all_of P p xs)

pub strip_narrow : (bs : List ℕ) → AllByRecursion Cell (strip_cells bs)
strip_narrow bs = All-map Cell (cell_of bs) (range_with_len 0 (strip_count bs)) (all_of (λ n. Cell (cell_of bs n)) (λ n. bits_narrow _) (range_with_len 0 (strip_count bs)))

pub leftover_along : (xs ys zs : List ℕ) → Leftover xs ys → Leftover ys zs → Leftover xs zs
leftover_along xs ys zs p q = (p.0 ∙ q.0, p.1 ∙ rw p.0 q.1)
