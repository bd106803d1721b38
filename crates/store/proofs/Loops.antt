-- The steps of the loops that write a store from its front.
use Rattle.std.proofs.Common.{◌≡◌, ℕ, ◌+◌, ◌<◌, min, List, [], ◌∷◌, ◌++◌, length, get_or, take, drop, set, replicate, ℤ, pos, Ok, Err, sym, ap, ◌∙◌, arith}
use lib.ListN.{length-replicate}
use Rattle.std.proofs.lemmas.List.{set_at, drop_more, take_more, append_assoc, length-take-le, take_min, take-replicate}
use Rattle.std.proofs.lemmas.Bool.Decides.{nat_tests}
use Rattle.fault.specs.declared.StoreError.{StoreError}
use Rattle.store.specs.Cells.{cell_at, cleared, copied}

-- one element more after a front of i
front_more : (zs ys : List ℤ) (i : ℕ) (v : ℤ) → length zs ≡ i → i < length ys → set (zs ++ drop i ys) i v ≡ (zs ++ v ∷ []) ++ drop (i + 1) ys
front_more zs ys i v e h =
    ap (λ t. set (zs ++ t) i v) (drop_more ys i (pos 0) h) ∙ set_at zs (get_or ys i (pos 0)) (drop (i + 1) ys) v i e ∙ sym (append_assoc zs (v ∷ []) (drop (i + 1) ys))

pub copied_zeros : (n : ℕ) (ys : List ℤ) → copied (replicate n (pos 0)) ys ≡ cleared n ys
copied_zeros n ys =
    let l = length-replicate n (pos 0) in
    let m : min (length ys) (length (replicate n (pos 0))) ≡ min n (length ys) = omega (arith, l) in
    let e = sym (take_min (length ys) (replicate n (pos 0))) ∙ ap (λ k. take k (replicate n (pos 0))) m ∙ take-replicate (min n (length ys)) n (pos 0) (omega arith) in
    rw (e, l)

pub copy_more : (xs ys : List ℤ) (i : ℕ) (v : ℤ) → v ≡ get_or xs i (pos 0) → i < length xs → i < length ys → set (take i xs ++ drop i ys) i v ≡ take (i + 1) xs ++ drop (i + 1) ys
copy_more xs ys i v e h k =
    front_more (take i xs) ys i v (length-take-le i xs (omega arith)) k ∙ ap (λ t. t ++ drop (i + 1) ys) (ap (λ w. take i xs ++ w ∷ []) e ∙ sym (take_more xs i (pos 0) h))

pub cell_is : (xs : List ℤ) (i : ℕ) (v : ℤ) → Ok v ≡ cell_at xs i → v ≡ get_or xs i (pos 0)
cell_is xs i v e = grind (arith, nat_tests)

-- a cell below the length is not refused
pub cell_there : (xs : List ℤ) (i : ℕ) (e : StoreError) → i < length xs → Err e ≡ cell_at xs i → ⊥
cell_there xs i e h r = grind (arith, nat_tests)
