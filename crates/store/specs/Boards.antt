-- Why the laws hold of a board.
use Rattle.std.specs.Prelude.{◌≡◌, ◌<◌, Bool, true, ◌&&◌, T, List, [], ◌∷◌, length, ℤ, pos, neg_ℤ, int_le}
use Rattle.std.proofs.Common.{subst, sym, arith}
use Rattle.std.specs.Int.Signed.{le_z_yes}
use Rattle.std.specs.List.{AllByRecursion}
use Rattle.std.proofs.lemmas.Bool.{and_parts}
use Rattle.store.specs.Cells.{Cell, all_cells}

pub full_few : {A : Type 0} (xs : List A) → length xs ≡ 2048 → length xs < 65536
full_few xs e = omega arith

yes : (b : Bool) → b ≡ true → T b
yes b e = subst T (sym e) tt

one_cell : (z : ℤ) → (int_le (neg_ℤ (pos 2147483648)) z && int_le z (pos 2147483647)) ≡ true → Cell z
one_cell z h =
    let p = and_parts (int_le (neg_ℤ (pos 2147483648)) z) (int_le z (pos 2147483647)) h in
    (le_z_yes (yes (int_le (neg_ℤ (pos 2147483648)) z) p.0), le_z_yes (yes (int_le z (pos 2147483647)) p.1))

pub all_cells_lem : (xs : List ℤ) → all_cells xs ≡ true → AllByRecursion Cell xs
all_cells_lem [] h = tt
all_cells_lem (x ∷ xs) h =
    let p = and_parts (int_le (neg_ℤ (pos 2147483648)) x && int_le x (pos 2147483647)) (all_cells xs) h in
    (one_cell x p.0, all_cells_lem xs p.1)
