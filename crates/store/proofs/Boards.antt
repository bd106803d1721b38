-- A board's numbers stay numbers of 32 bits.
use Rattle.std.proofs.Common.{◌≡◌, ℕ, zero, suc, true, List, [], ◌∷◌, set, ℤ, to_z, w32, refl, arith}
use Rattle.std.proofs.lemmas.Int.{ints}
use Rattle.store.specs.Cells.{all_cells}

-- whatever 32 bits mean is what a cell can hold
pub set_narrow : (xs : List ℤ) (n v : ℕ) → all_cells xs ≡ true → all_cells (set xs n (to_z w32 v)) ≡ true
set_narrow [] n v h = refl
set_narrow (x ∷ xs) zero v h = grind (arith, ints)
set_narrow (x ∷ xs) (suc n) v h = let k = set_narrow xs n v in grind (arith, ints)
