-- One digit more of a number. Assumes nothing.
use Rattle.std.proofs.Common.{◌≡◌, ℕ, ◌+◌, ◌-◌, ◌*◌, ◌<◌, Bool, true, false, cond, ◌&&◌, leb, List, [], ◌∷◌, length, get_or, drop, Some, None, Option, sym, refl, ◌∙◌, le-mul_of_pos_right, arith}
use Rattle.std.proofs.lemmas.List.{at_drop_more}
use Rattle.std.proofs.lemmas.Bool.Decides.{nat_tests}
use Rattle.symbol.specs.Values.{digit_in, all_digits, positional, digit_value_of}

-- what the digits bs say behind those that say n
abbrev pub onward : ℕ → ℕ → ℕ → List ℕ → Option ℕ
onward base limit n bs = cond (all_digits base bs && leb (positional base n bs) limit) (Some (positional base n bs)) None

-- digits behind a number above the limit do not bring it back
pub onward_over : (base limit n : ℕ) (bs : List ℕ) → limit < n → onward base limit n bs ≡ None
onward_over base limit n [] h =
    let over : leb n limit ≡ false = grind (arith, nat_tests) in
    rw over
onward_over base limit n (b ∷ bs) h = go (digit_in base b) refl (onward_over base limit (n * base + (b - 48)) bs)
  where
    go : (d : Bool) → digit_in base b ≡ d → (limit < n * base + (b - 48) → onward base limit (n * base + (b - 48)) bs ≡ None) → cond ((d && all_digits base bs) && leb (positional base (n * base + (b - 48)) bs) limit) (Some (positional base (n * base + (b - 48)) bs)) None ≡ None
    go false e more = refl
    go true e more =
        let some : 0 < base = grind (arith, nat_tests) in
        let grows = le-mul_of_pos_right n some in
        more (omega arith)

-- nor do the bytes from this digit on, where it makes the number too large
pub too_large : (base limit n : ℕ) (xs : List ℕ) (i d : ℕ) → i < length xs → Some d ≡ digit_value_of base (get_or xs i 0) → limit < n * base + d → None ≡ onward base limit n (drop i xs)
too_large base limit n xs i d h e k = go (digit_in base (get_or xs i 0)) refl e
  where
    go : (t : Bool) → digit_in base (get_or xs i 0) ≡ t → Some d ≡ cond t (Some (get_or xs i 0 - 48)) None → None ≡ onward base limit n (drop i xs)
    go false f g = cc
    go true f g =
        let same : d ≡ get_or xs i 0 - 48 = cc in
        sym (at_drop_more (onward base limit n) xs i 0 h ∙ rw f (onward_over base limit (n * base + (get_or xs i 0 - 48)) (drop (i + 1) xs) (rw (← same) k)))
