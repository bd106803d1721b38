-- Runs of letters and digits: what has one, and where it ends. Assumes nothing.
use Rattle.std.proofs.Common.{◌≡◌, ℕ, zero, suc, ◌+◌, ◌-◌, ◌<◌, ◌≤◌, Bool, true, false, cond, ◌&&◌, eqb, ltb, leb, List, [], ◌∷◌, ◌++◌, map, length, get_or, take, drop, Some, None, sym, refl, ap, ◌∙◌, subst, one-add, arith, rules}
use Rattle.std.proofs.lemmas.List.{take_more, take_all}
use Rattle.std.proofs.lemmas.Bool.Decides.{nat_tests}
use Rattle.std.specs.Char.{is_ascii_alphanumeric, to_ascii_lowercase}
use Rattle.symbol.specs.declared.word.Word.{Word}
use Rattle.symbol.specs.declared.mark.Mark.{Mark}
use Rattle.symbol.specs.Words.{word_spelling, mark_spelling}
use Rattle.symbol.specs.Values.{digit_in, all_digits, positional, digits_value_of, front, last_letter, number_value_of, ordinal_value_of}
use Rattle.scanner.specs.Fronts.{run}
use Rattle.lexing.specs.Spelling.{letters_or_digits}

pub both : (x y : Bool) → (x && y) ≡ true → (x ≡ true) × (y ≡ true)
both true y e = (refl, e)
both false y e = let z : ◌≡◌ {A = ℕ} 0 1 = cc in absurd (omega arith)

-- ---- the run in front

pub run_all : (bs : List ℕ) → letters_or_digits (take (run bs) bs) ≡ true
run_all [] = refl
run_all (b ∷ bs) = go (is_ascii_alphanumeric b) refl (run_all bs)
  where
    go : (x : Bool) → is_ascii_alphanumeric b ≡ x → letters_or_digits (take (run bs) bs) ≡ true → letters_or_digits (take (cond x (1 + run bs) 0) (b ∷ bs)) ≡ true
    go true e h = rw (one-add, e, h)
    go false e h = refl

pub run_stops : (bs : List ℕ) → is_ascii_alphanumeric (get_or (drop (run bs) bs) 0 0) ≡ false
run_stops [] = refl
run_stops (b ∷ bs) = go (is_ascii_alphanumeric b) refl (run_stops bs)
  where
    go : (x : Bool) → is_ascii_alphanumeric b ≡ x → is_ascii_alphanumeric (get_or (drop (run bs) bs) 0 0) ≡ false → is_ascii_alphanumeric (get_or (drop (cond x (1 + run bs) 0) (b ∷ bs)) 0 0) ≡ false
    go true e h = rw one-add h
    go false e h = e

pub run_holds : (n : ℕ) (bs : List ℕ) → n ≤ length bs → letters_or_digits (take n bs) ≡ true → n ≤ run bs
run_holds zero bs h e = omega arith
run_holds (suc n) [] h e = absurd (omega arith)
run_holds (suc n) (b ∷ bs) h e =
    let parts = both (is_ascii_alphanumeric b) (letters_or_digits (take n bs)) e in
    let more = run_holds n bs (omega arith) parts.1 in
    rw parts.0 (omega arith)

-- ---- numbers

alnum_last : (xs : List ℕ) (b : ℕ) → letters_or_digits xs ≡ true → is_ascii_alphanumeric b ≡ true → letters_or_digits (xs ++ b ∷ []) ≡ true
alnum_last [] b h e = rw e
alnum_last (x ∷ xs) b h e =
    let parts = both (is_ascii_alphanumeric x) (letters_or_digits xs) h in
    rw (parts.0, alnum_last xs b parts.1 e)

digits_alnum : (base : ℕ) (bs : List ℕ) → base ≤ 10 → all_digits base bs ≡ true → letters_or_digits bs ≡ true
digits_alnum base [] h e = refl
digits_alnum base (b ∷ bs) h e =
    let parts = both (digit_in base b) (all_digits base bs) e in
    let digit = parts.0 in
    let alnum : is_ascii_alphanumeric b ≡ true = grind (arith, nat_tests) in
    rw (alnum, digits_alnum base bs h parts.1)

-- what has a value has a digit, and digits only
pub digits_some : (base limit : ℕ) (bs : List ℕ) (v : ℕ) → digits_value_of base limit bs ≡ Some v → (0 < length bs) × (all_digits base bs ≡ true)
unfolding digits_value_of
digits_some base limit bs v e = go (ltb 0 (length bs)) (all_digits base bs) (leb (positional base 0 bs) limit) refl refl e
  where
    go : (x y z : Bool) → ltb 0 (length bs) ≡ x → all_digits base bs ≡ y → cond (x && (y && z)) (Some (positional base 0 bs)) None ≡ Some v → (0 < length bs) × (all_digits base bs ≡ true)
    go true true z p q r = (grind (arith, nat_tests), q)
    go true false z p q r = let n : ◌≡◌ {A = ℕ} 0 1 = cc in absurd (omega arith)
    go false y z p q r = let n : ◌≡◌ {A = ℕ} 0 1 = cc in absurd (omega arith)

-- octal digits and a letter
suffixed : (limit : ℕ) (bs : List ℕ) (v : ℕ) → is_ascii_alphanumeric (get_or bs (length bs - 1) 0) ≡ true → digits_value_of 8 limit (front bs) ≡ Some v → letters_or_digits bs ≡ true
suffixed limit [] v e h = refl
suffixed limit (b ∷ bs) v e h =
    let digits = digits_some 8 limit (front (b ∷ bs)) v h in
    let whole = digits_alnum 8 (front (b ∷ bs)) (omega arith) digits.1 in
    let one : length (b ∷ bs) - 1 + 1 ≡ length (b ∷ bs) = omega arith in
    let split = sym (take_more (b ∷ bs) (length (b ∷ bs) - 1) 0 (omega arith)) ∙ ap (λ n. take n (b ∷ bs)) one ∙ take_all (length (b ∷ bs)) (b ∷ bs) (omega arith) in
    subst (λ xs. letters_or_digits xs ≡ true) split (alnum_last (front (b ∷ bs)) (get_or (b ∷ bs) (length (b ∷ bs) - 1) 0) whole e)

pub number_alnum : (bs : List ℕ) (v : ℕ) → number_value_of bs ≡ Some v → letters_or_digits bs ≡ true
number_alnum bs v e = go (eqb (last_letter bs) 98) refl e
  where
    go : (x : Bool) → eqb (last_letter bs) 98 ≡ x → cond x (digits_value_of 8 2147483647 (front bs)) (digits_value_of 10 2147483647 bs) ≡ Some v → letters_or_digits bs ≡ true
    go true p q =
        let b : is_ascii_alphanumeric (get_or bs (length bs - 1) 0) ≡ true = grind (arith, nat_tests) in
        suffixed 2147483647 bs v b q
    go false p q = digits_alnum 10 bs (omega arith) (digits_some 10 2147483647 bs v q).1

pub ordinal_alnum : (bs : List ℕ) (v : ℕ) → ordinal_value_of bs ≡ Some v → letters_or_digits bs ≡ true
ordinal_alnum bs v e = go (eqb (last_letter bs) 99) refl e
  where
    go : (x : Bool) → eqb (last_letter bs) 99 ≡ x → cond x (digits_value_of 8 127 (front bs)) None ≡ Some v → letters_or_digits bs ≡ true
    go true p q =
        let c : is_ascii_alphanumeric (get_or bs (length bs - 1) 0) ≡ true = grind (arith, nat_tests) in
        suffixed 127 bs v c q
    go false p q = let n : ◌≡◌ {A = ℕ} 0 1 = cc in absurd (omega arith)

-- ---- reserved words and marks

small_alnum : (b : ℕ) → is_ascii_alphanumeric (to_ascii_lowercase b) ≡ true → is_ascii_alphanumeric b ≡ true
small_alnum b e = grind (arith, nat_tests)

lower_alnum : (bs : List ℕ) → letters_or_digits (map to_ascii_lowercase bs) ≡ true → letters_or_digits bs ≡ true
lower_alnum [] e = refl
lower_alnum (b ∷ bs) e =
    let parts = both (is_ascii_alphanumeric (to_ascii_lowercase b)) (letters_or_digits (map to_ascii_lowercase bs)) e in
    rw (small_alnum b parts.0, lower_alnum bs parts.1)

spelling_alnum : (x : Word) → letters_or_digits (word_spelling x) ≡ true
spelling_alnum x = search rules

pub word_alnum : (x : Word) (bs : List ℕ) → map to_ascii_lowercase bs ≡ word_spelling x → letters_or_digits bs ≡ true
word_alnum x bs e = lower_alnum bs (ap letters_or_digits e ∙ spelling_alnum x)

-- no mark begins like a word, a number or a character
pub mark_first : (x : Mark) → (is_ascii_alphanumeric (get_or (mark_spelling x) 0 0) ≡ false) × (eqb (get_or (mark_spelling x) 0 0) 34 ≡ false)
mark_first x = search rules

pub mark_short : (x : Mark) → length (mark_spelling x) ≤ 2
mark_short x = search rules
