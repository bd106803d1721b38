-- A window on a list: its length, what a write leaves, and a window on a window.
use Rattle.std.proofs.Common.{◌≡◌, ℕ, zero, suc, ◌+◌, ◌-◌, min, List, [], ◌∷◌, length, take, drop, set, ℤ, sym, refl, ap, ◌∙◌, arith, length-drop, length-take}
use native.Mathlib.Nat.{zero-min, min-zero}
use lib.Seq.{take-nil}
use Rattle.std.proofs.lemmas.Slice.{between_is}
use Rattle.std.proofs.lemmas.List.{drop-set-add, drop-drop}
use Rattle.store.specs.Cells.{window}
use Rattle.store.specs.Bays.{PilesAreBays}

pub window_length : (f k : ℕ) (xs : List ℤ) → length (window f k xs) ≡ min k (length xs - f)
window_length f k xs = simp (length-take, length-drop)

take_set : {A : Type 0} (k : ℕ) (l : List A) (n : ℕ) (v : A) → take k (set l n v) ≡ set (take k l) n v
take_set zero l n v = refl
take_set (suc k) [] n v = refl
take_set (suc k) (x ∷ l) zero v = refl
take_set (suc k) (x ∷ l) (suc n) v = ap (λ (t : List _). x ∷ t) (take_set k l n v)

pub set_window : (f k n : ℕ) (xs : List ℤ) (v : ℤ) → window f k (set xs (f + n) v) ≡ set (window f k xs) n v
set_window f k n xs v = rw drop-set-add (take_set k (drop f xs) n v)

take_front : (m n : ℕ) (xs : List ℤ) → take m (take n xs) ≡ take (min m n) xs
take_front zero n xs = ap (λ k. take k xs) (sym (zero-min n))
take_front (suc m) zero xs = ap (λ k. take k xs) (sym (min-zero (suc m)))
take_front (suc m) (suc n) [] = sym (take-nil (min (suc m) (suc n)))
take_front (suc m) (suc n) (x ∷ xs) =
    let e : suc (min m n) ≡ min (suc m) (suc n) = omega arith in
    ap (λ (t : List ℤ). x ∷ t) (take_front m n xs) ∙ ap (λ k. take k (x ∷ xs)) e

pub piles : PilesAreBays
piles first len lower most xs =
    ap (take len) (sym (between_is (drop lower xs) first most))
    ∙ take_front len (most - first) (drop first (drop lower xs))
    ∙ ap (take (min len (most - first))) (drop-drop first lower xs)
