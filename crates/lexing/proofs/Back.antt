-- Gaps and symbols are read back as what they are. Assumes nothing.
use Rattle.std.proofs.Common.{◌≡◌, ℕ, zero, suc, ◌+◌, ◌-◌, ◌<◌, ◌≤◌, Bool, true, false, cond, eqb, leb, ◌⊎◌, List, [], ◌∷◌, ◌++◌, map, length, get_or, take, drop, Some, None, Ok, Option, sym, refl, ap, ◌∙◌, subst, inl, inr, add-zero, add_assoc, add-one, arith, length-append, eqb-true, rules}
use Rattle.std.proofs.lemmas.List.{get_or_append_left, get_or-append-add, take-append-le, take_all}
use Rattle.std.proofs.lemmas.Bool.Decides.{nat_tests}
use Rattle.std.specs.Char.{is_ascii_alphanumeric, is_ascii_alphabetic, is_ascii_digit, to_ascii_lowercase}
use Rattle.std.specs.List.{find}
use Rattle.std.specs.Str.{bytes_eq}
use Rattle.symbol.specs.declared.word.Word.{Word}
use Rattle.symbol.specs.declared.mark.Mark.{Mark}
use Rattle.symbol.specs.declared.mark.Mark.TheVariants as m
use Rattle.symbol.specs.Symbols.{Sym, name, number, character, word, mark, ending}
use Rattle.symbol.specs.Words.{word_spelling, mark_spelling, words, reserved}
use Rattle.symbol.specs.Values.{digit_in, all_digits, digits_value_of, front, last_letter, number_value_of, ordinal_value_of, quoted_value_of, plainly_quoted, quoted_quote, character_value_of}
use Rattle.symbol.proofs.Reserved.{reserves, spelling_small}
use Rattle.scanner.specs.declared.gap.Move.{Move}
use Rattle.scanner.specs.declared.gap.Move.TheVariants as to
use Rattle.scanner.specs.Gaps.{blank, allowed, opening, closing, move_of, gap}
use Rattle.scanner.specs.Fronts.{run, word_or, quotes, begins_digit, begins_mark, begins}
use Rattle.scanner.proofs.Gaps.{moved, gap_none, gap_move}
use Rattle.scanner.proofs.Fronts.{begins_word_lem, begins_digit_lem, begins_quote_lem, begins_mark_lem}
use Rattle.lexing.specs.Spelling.{letters_or_digits, IsName, Spells, Longest, Apart, Gap, done, blank_then, opens, closes, inside}
use Rattle.lexing.proofs.Blanks.{never_empty}
use Rattle.lexing.proofs.Runs.{both, number_alnum, ordinal_alnum, word_alnum, digits_some}

-- ---- gaps

-- behind a gap there is nothing, or something else begins
abbrev pub Rests : List ℕ → Type 0
Rests bs = (length bs ≡ 0) ⊎ (move_of 0 (get_or bs 0 0) (get_or bs 1 0) ≡ to.Stop)

blank_passes : (b c : ℕ) → blank b ≡ true → move_of 0 b c ≡ to.Pass
blank_passes b c e = grind (arith, nat_tests)

opening_opens : (d b c : ℕ) → opening b c ≡ true → d < 32 → move_of d b c ≡ to.Open
opening_opens d b c e l = grind (arith, nat_tests)

closing_closes : (d b c : ℕ) → closing b c ≡ true → move_of (suc d) b c ≡ to.Close
closing_closes d b c e = grind (arith, nat_tests)

inside_passes : (d b c : ℕ) → allowed b ≡ true → opening b c ≡ false → closing b c ≡ false → move_of (suc d) b c ≡ to.Pass
inside_passes d b c e f g = grind (arith, nat_tests)

module _ (d k b : ℕ) (bs : List ℕ) where
  by_move : (x : Move) → move_of d b (get_or bs 0 0) ≡ x → gap d k (b ∷ bs) ≡ moved x k (gap (d + 1) (k + 2) (drop 1 bs)) (gap (d - 1) (k + 2) (drop 1 bs)) (gap d (k + 1) bs)
  by_move x e = gap_move d k (b ∷ bs) (omega arith) ∙ ap (λ y. moved y k (gap (d + 1) (k + 2) (drop 1 bs)) (gap (d - 1) (k + 2) (drop 1 bs)) (gap d (k + 1) bs)) e

rests : (k : ℕ) (rest : List ℕ) → Rests rest → gap 0 k rest ≡ Ok k
rests k [] r = gap_none 0 k
rests k (b ∷ bs) (inl e) = absurd (omega arith)
rests k (b ∷ bs) (inr e) = by_move 0 k b bs to.Stop e

first_joined : (d : ℕ) (bs rest : List ℕ) → Gap (suc d) bs → get_or (bs ++ rest) 0 0 ≡ get_or bs 0 0
first_joined d [] rest g = absurd (never_empty d [] refl g)
first_joined d (b ∷ bs) rest g = refl

further : (k n m : ℕ) → k + n + m ≡ k + (n + m)
further k n m = add_assoc k n m

pub gap_reads : (rest : List ℕ) → Rests rest → (k d : ℕ) (g : List ℕ) → Gap d g → gap d k (g ++ rest) ≡ Ok (k + length g)
gap_reads rest r k d g done = rests k rest r ∙ ap Ok (sym (add-zero k))
gap_reads rest r k d g (blank_then b bs h x) =
    let more : k + 1 + length bs ≡ k + length (b ∷ bs) = omega arith in
    by_move 0 k b (bs ++ rest) to.Pass (blank_passes b (get_or (bs ++ rest) 0 0) h) ∙ gap_reads rest r (k + 1) 0 bs x ∙ ap Ok more
gap_reads rest r k d g (opens n b c bs h l x) =
    let more : k + 2 + length bs ≡ k + length (b ∷ c ∷ bs) = omega arith in
    by_move n k b (c ∷ bs ++ rest) to.Open (opening_opens n b c h l) ∙ ap (λ i. gap i (k + 2) (bs ++ rest)) (add-one n) ∙ gap_reads rest r (k + 2) (suc n) bs x ∙ ap Ok more
gap_reads rest r k d g (closes n b c bs h x) =
    let more : k + 2 + length bs ≡ k + length (b ∷ c ∷ bs) = omega arith in
    let pred : suc n - 1 ≡ n = omega arith in
    by_move (suc n) k b (c ∷ bs ++ rest) to.Close (closing_closes n b c h) ∙ ap (λ i. gap i (k + 2) (bs ++ rest)) pred ∙ gap_reads rest r (k + 2) n bs x ∙ ap Ok more
gap_reads rest r k d g (inside n b bs a o c x) =
    let more : k + 1 + length bs ≡ k + length (b ∷ bs) = omega arith in
    let head = first_joined n bs rest x in
    by_move (suc n) k b (bs ++ rest) to.Pass (inside_passes n b (get_or (bs ++ rest) 0 0) a (ap (opening b) head ∙ o) (ap (closing b) head ∙ c))
    ∙ gap_reads rest r (k + 1) (suc n) bs x ∙ ap Ok more

-- ---- symbols

-- a run and what is no letter or digit behind it
run_joined : (part rest : List ℕ) → letters_or_digits part ≡ true → is_ascii_alphanumeric (get_or rest 0 0) ≡ false → length part ≡ run (part ++ rest)
run_joined [] [] e f = refl
run_joined [] (b ∷ bs) e f = rw f
run_joined (b ∷ part) rest e f =
    let parts = both (is_ascii_alphanumeric b) (letters_or_digits part) e in
    let more = run_joined part rest parts.1 f in
    rw parts.0 (omega arith)

letter_small : (b : ℕ) → is_ascii_alphabetic (to_ascii_lowercase b) ≡ true → is_ascii_alphabetic b ≡ true
letter_small b e = grind (arith, nat_tests)

spelling_letter : (x : Word) → is_ascii_alphabetic (get_or (word_spelling x) 0 0) ≡ true
spelling_letter x = search rules

pub spelling_short : (x : Word) → (0 < length (word_spelling x)) × (length (word_spelling x) ≤ 24)
spelling_short x = search rules

spelling_reserved : (x : Word) → reserved (word_spelling x) ≡ Some x
spelling_reserved x = search rules

pub length_lower : (bs : List ℕ) → length (map to_ascii_lowercase bs) ≡ length bs
length_lower [] = refl
length_lower (b ∷ bs) = ap suc (length_lower bs)

lower_first : (bs : List ℕ) → 0 < length bs → get_or (map to_ascii_lowercase bs) 0 0 ≡ to_ascii_lowercase (get_or bs 0 0)
lower_first [] h = absurd (omega arith)
lower_first (b ∷ bs) h = refl

module _ (part rest : List ℕ) where
  cut : take (length part) (part ++ rest) ≡ part
  cut = take-append-le (length part) part rest (omega arith) ∙ take_all (length part) part (omega arith)

  pub head : 0 < length part → get_or (part ++ rest) 0 0 ≡ get_or part 0 0
  head h = get_or_append_left part rest 0 0 h

  module _ (alnum : letters_or_digits part ≡ true) (apart : is_ascii_alphanumeric (get_or rest 0 0) ≡ false) where
    whole : run (part ++ rest) ≡ length part
    whole = sym (run_joined part rest alnum apart)

    cut_run : take (run (part ++ rest)) (part ++ rest) ≡ part
    cut_run = ap (λ n. take n (part ++ rest)) whole ∙ cut

    word_back : is_ascii_alphabetic (get_or part 0 0) ≡ true → 0 < length part → length part ≤ 24 → begins (part ++ rest) ≡ Some (word_or (reserved part) part, length part)
    word_back e h l =
        let short : leb (run (part ++ rest)) 24 ≡ true = grind (arith, nat_tests, whole) in
        sym (begins_word_lem (part ++ rest) (ap is_ascii_alphabetic (head h) ∙ e)) ∙ rw (short, cut_run, whole)

    digit_back : is_ascii_digit (get_or part 0 0) ≡ true → 0 < length part → begins_digit (part ++ rest) ≡ begins (part ++ rest)
    digit_back e h =
        let no-letter : is_ascii_alphabetic (get_or part 0 0) ≡ false = grind (arith, nat_tests) in
        begins_digit_lem (part ++ rest) (ap is_ascii_alphabetic (head h) ∙ no-letter) (ap is_ascii_digit (head h) ∙ e)

    number_back : (v : ℕ) → is_ascii_digit (get_or part 0 0) ≡ true → 0 < length part → number_value_of part ≡ Some v → begins (part ++ rest) ≡ Some (number part, length part)
    number_back v e h f = sym (digit_back e h) ∙ rw (cut_run, f, whole)

    ordinal_back : (v : ℕ) → is_ascii_digit (get_or part 0 0) ≡ true → 0 < length part → number_value_of part ≡ None → character_value_of part ≡ Some v → begins (part ++ rest) ≡ Some (character part, length part)
    ordinal_back v e h f g = sym (digit_back e h) ∙ rw (cut_run, f, g, whole)

-- ---- a number begins with a digit

digit_in_lem : (base b : ℕ) → base ≤ 10 → digit_in base b ≡ true → is_ascii_digit b ≡ true
digit_in_lem base b h e = grind (arith, nat_tests)

digits_at : (base : ℕ) (bs : List ℕ) (i : ℕ) → i < length bs → all_digits base bs ≡ true → digit_in base (get_or bs i 0) ≡ true
digits_at base [] i h e = absurd (omega arith)
digits_at base (b ∷ bs) zero h e = (both (digit_in base b) (all_digits base bs) e).0
digits_at base (b ∷ bs) (suc i) h e = digits_at base bs i (omega arith) (both (digit_in base b) (all_digits base bs) e).1

front_first : (bs : List ℕ) → 0 < length (front bs) → (get_or (front bs) 0 0 ≡ get_or bs 0 0) × (0 < length bs)
front_first [] h = absurd (omega arith)
front_first (b ∷ []) h = absurd (omega arith)
front_first (b ∷ c ∷ bs) h =
    let n : length (b ∷ c ∷ bs) - 1 ≡ suc (length bs) = omega arith in
    (rw n, omega arith)

digits_first : (base limit v : ℕ) (bs : List ℕ) → base ≤ 10 → digits_value_of base limit bs ≡ Some v → (is_ascii_digit (get_or bs 0 0) ≡ true) × (0 < length bs)
digits_first base limit v bs h e =
    let some = digits_some base limit bs v e in
    (digit_in_lem base (get_or bs 0 0) h (digits_at base bs 0 some.0 some.1), some.0)

octal_first : (limit v : ℕ) (bs : List ℕ) → digits_value_of 8 limit (front bs) ≡ Some v → (is_ascii_digit (get_or bs 0 0) ≡ true) × (0 < length bs)
octal_first limit v bs e =
    let some = digits_first 8 limit v (front bs) (omega arith) e in
    let f = front_first bs some.1 in
    (ap is_ascii_digit (sym f.0) ∙ some.0, f.1)

pub number_first : (bs : List ℕ) (v : ℕ) → number_value_of bs ≡ Some v → (is_ascii_digit (get_or bs 0 0) ≡ true) × (0 < length bs)
number_first bs v e = go (eqb (last_letter bs) 98) e
  where
    go : (x : Bool) → cond x (digits_value_of 8 2147483647 (front bs)) (digits_value_of 10 2147483647 bs) ≡ Some v → (is_ascii_digit (get_or bs 0 0) ≡ true) × (0 < length bs)
    go true q = octal_first 2147483647 v bs q
    go false q = digits_first 10 2147483647 v bs (omega arith) q

-- what ends in C is no number
pub ordinal_says : (bs : List ℕ) (v : ℕ) → ordinal_value_of bs ≡ Some v → (is_ascii_digit (get_or bs 0 0) ≡ true) × (0 < length bs) × (number_value_of bs ≡ None)
ordinal_says bs v e = go (eqb (last_letter bs) 99) refl e
  where
    no_number : last_letter bs ≡ 99 → 0 < length bs → (o : Option ℕ) → digits_value_of 10 2147483647 bs ≡ o → digits_value_of 10 2147483647 bs ≡ None
    no_number l h None f = f
    no_number l h (Some n) f =
        let some = digits_some 10 2147483647 bs n f in
        let last = digits_at 10 bs (length bs - 1) (omega arith) some.1 in
        let z : ◌≡◌ {A = ℕ} 0 1 = grind (arith, nat_tests, last, l) in
        absurd (omega arith)

    go : (x : Bool) → eqb (last_letter bs) 99 ≡ x → cond x (digits_value_of 8 127 (front bs)) None ≡ Some v → (is_ascii_digit (get_or bs 0 0) ≡ true) × (0 < length bs) × (number_value_of bs ≡ None)
    go true p q =
        let first = octal_first 127 v bs q in
        let last = eqb-true (last_letter bs) 99 p in
        let other : eqb (last_letter bs) 98 ≡ false = rw last in
        (first.0, first.1, rw other (no_number last first.1 (digits_value_of 10 2147483647 bs) refl))
    go false p q = let z : ◌≡◌ {A = ℕ} 0 1 = cc in absurd (omega arith)

-- ---- quotes

pub quoted_says : (bs : List ℕ) (v : ℕ) → quoted_value_of bs ≡ Some v → (length bs ≡ quotes bs) × (get_or bs 0 0 ≡ 34)
quoted_says bs v h = go (plainly_quoted bs) (quoted_quote bs) refl refl h
  where
    go : (x y : Bool) → plainly_quoted bs ≡ x → quoted_quote bs ≡ y → cond x (Some (get_or bs 1 0)) (cond y (Some 34) None) ≡ Some v → (length bs ≡ quotes bs) × (get_or bs 0 0 ≡ 34)
    go true y e f g =
        let three : length bs ≡ 3 = grind (arith, nat_tests) in
        let other : eqb (get_or bs 1 0) 34 ≡ false = grind (arith, nat_tests) in
        (rw other three, grind (arith, nat_tests))
    go false true e f g =
        let four : length bs ≡ 4 = grind (arith, nat_tests) in
        let second : eqb (get_or bs 1 0) 34 ≡ true = grind (arith, nat_tests) in
        (rw second four, grind (arith, nat_tests))
    go false false e f g = let z : ◌≡◌ {A = ℕ} 0 1 = cc in absurd (omega arith)

pub three_at_least : (b : Bool) → 3 ≤ cond b 4 3
three_at_least true = omega arith
three_at_least false = omega arith

quote_back : (part rest : List ℕ) (v : ℕ) → character_value_of part ≡ Some v → quoted_value_of part ≡ Some v → is_ascii_alphanumeric (get_or rest 0 0) ≡ false → begins (part ++ rest) ≡ Some (character part, length part)
quote_back part rest v c q apart =
    let says = quoted_says part v q in
    let size = says.0 in
    let three = three_at_least (eqb (get_or part 1 0) 34) in
    let second : get_or (part ++ rest) 1 0 ≡ get_or part 1 0 = get_or_append_left part rest 0 1 (omega arith) in
    let count : quotes (part ++ rest) ≡ length part = ap (λ b. cond (eqb b 34) 4 3) second ∙ sym size in
    let joined = length-append part rest in
    let fits : leb (length part) (length (part ++ rest)) ≡ true = grind (arith, nat_tests, joined) in
    let behind : is_ascii_alphanumeric (get_or (part ++ rest) (length part) 0) ≡ false = ap (λ i. is_ascii_alphanumeric (get_or (part ++ rest) i 0)) (sym (add-zero (length part))) ∙ ap is_ascii_alphanumeric (get_or-append-add part rest 0 0) ∙ apart in
    let first : get_or (part ++ rest) 0 0 ≡ 34 = head part rest (omega arith) ∙ says.1 in
    sym (begins_quote_lem (part ++ rest) first) ∙ rw (count, fits, cut part rest, c, behind)

-- ---- marks

-- were the second byte c, the longer mark would begin here
shorter : (b c : ℕ) (rest : List ℕ) → 0 < c → (2 ≤ length (b ∷ rest) → take 2 (b ∷ rest) ≡ b ∷ c ∷ [] → ⊥) → eqb (get_or rest 0 0) c ≡ false
shorter b c [] h never = grind (arith, nat_tests)
shorter b c (x ∷ rest) h never = go (eqb x c) refl
  where
    go : (y : Bool) → eqb x c ≡ y → y ≡ false
    go true e = absurd (never (omega arith) (ap (λ z. b ∷ z ∷ []) (eqb-true x c e)))
    go false e = refl

mark_back : (x : Mark) (rest : List ℕ) → Longest (length (mark_spelling x)) (mark_spelling x ++ rest) → begins_mark (get_or (mark_spelling x ++ rest) 0 0) (get_or (mark_spelling x ++ rest) 1 0) ≡ Some (mark x, length (mark_spelling x))
mark_back m.Plus rest long = refl
mark_back m.Minus rest long = refl
mark_back m.Times rest long = refl
mark_back m.Slash rest long = refl
mark_back m.Equal rest long = refl
mark_back m.NotEqual rest long = refl
mark_back m.Less rest long =
    let noNotEqual : eqb (get_or rest 0 0) 62 ≡ false = shorter 60 62 rest (omega arith) (λ l e. long (mark m.NotEqual) 2 (omega arith) l e) in
    let noLessEqual : eqb (get_or rest 0 0) 61 ≡ false = shorter 60 61 rest (omega arith) (λ l e. long (mark m.LessEqual) 2 (omega arith) l e) in
    rw (noNotEqual, noLessEqual)
mark_back m.LessEqual rest long = refl
mark_back m.Greater rest long =
    let noGreaterEqual : eqb (get_or rest 0 0) 61 ≡ false = shorter 62 61 rest (omega arith) (λ l e. long (mark m.GreaterEqual) 2 (omega arith) l e) in
    rw (noGreaterEqual)
mark_back m.GreaterEqual rest long = refl
mark_back m.Becomes rest long = refl
mark_back m.LeftParen rest long = refl
mark_back m.RightParen rest long = refl
mark_back m.LeftBracket rest long = refl
mark_back m.RightBracket rest long = refl
mark_back m.Dot rest long = refl
mark_back m.Comma rest long = refl
mark_back m.Colon rest long =
    let noBecomes : eqb (get_or rest 0 0) 61 ≡ false = shorter 58 61 rest (omega arith) (λ l e. long (mark m.Becomes) 2 (omega arith) l e) in
    rw (noBecomes)
mark_back m.Semicolon rest long = refl

mark_plain : (x : Mark) (rest : List ℕ) → (is_ascii_alphabetic (get_or (mark_spelling x ++ rest) 0 0) ≡ false) × (is_ascii_digit (get_or (mark_spelling x ++ rest) 0 0) ≡ false) × (eqb (get_or (mark_spelling x ++ rest) 0 0) 34 ≡ false)
mark_plain x rest = search rules

-- ---- every symbol

char_back : (part rest : List ℕ) (v : ℕ) → character_value_of part ≡ Some v → is_ascii_alphanumeric (get_or rest 0 0) ≡ false → begins (part ++ rest) ≡ Some (character part, length part)
char_back part rest v c apart = go (eqb (get_or part 0 0) 34) refl
  where
    go : (x : Bool) → eqb (get_or part 0 0) 34 ≡ x → begins (part ++ rest) ≡ Some (character part, length part)
    go true e = quote_back part rest v c (subst (λ y. cond y (quoted_value_of part) (ordinal_value_of part) ≡ Some v) e c) apart
    go false e =
        let o : ordinal_value_of part ≡ Some v = subst (λ y. cond y (quoted_value_of part) (ordinal_value_of part) ≡ Some v) e c in
        let says = ordinal_says part v o in
        ordinal_back part rest (ordinal_alnum part v o) apart v says.0 says.1 says.2 c

free_name : (part : List ℕ) (o : Option Word) → o ≡ reserved part → ((x : Word) → map to_ascii_lowercase part ≡ word_spelling x → ⊥) → reserved part ≡ None
free_name part None e never = sym e
free_name part (Some x) e never = absurd (never x (reserves part (Some x) e))

pub nonempty : (bs : List ℕ) → is_ascii_alphabetic (get_or bs 0 0) ≡ true → 0 < length bs
nonempty [] e = let z : ◌≡◌ {A = ℕ} 0 1 = cc in absurd (omega arith)
nonempty (b ∷ bs) e = omega arith

name_back : (part rest : List ℕ) → IsName part → is_ascii_alphanumeric (get_or rest 0 0) ≡ false → begins (part ++ rest) ≡ Some (name part, length part)
name_back part rest n apart =
    let free = free_name part (reserved part) refl n.free in
    word_back part rest n.rest apart n.first (nonempty part n.first) n.short ∙ ap (λ o. Some (word_or o part, length part)) free

reserved_back : (x : Word) (part rest : List ℕ) → map to_ascii_lowercase part ≡ word_spelling x → is_ascii_alphanumeric (get_or rest 0 0) ≡ false → begins (part ++ rest) ≡ Some (word x, length part)
reserved_back x part rest e apart =
    let size : length part ≡ length (word_spelling x) = sym (length_lower part) ∙ ap length e in
    let short = spelling_short x in
    let lo = short.0 in
    let hi = short.1 in
    let some : 0 < length part = omega arith in
    let letter : is_ascii_alphabetic (get_or part 0 0) ≡ true = letter_small (get_or part 0 0) (ap is_ascii_alphabetic (sym (lower_first part some)) ∙ ap (λ xs. is_ascii_alphabetic (get_or xs 0 0)) e ∙ spelling_letter x) in
    let found : reserved part ≡ Some x = ap (λ l. find (λ y. bytes_eq l (map to_ascii_lowercase (word_spelling y))) words) (e ∙ sym (spelling_small x)) ∙ spelling_reserved x in
    word_back part rest (word_alnum x part e) apart letter some (omega arith) ∙ ap (λ o. Some (word_or o part, length part)) found

pub symbol_reads : (s : Sym) (part rest : List ℕ) → Spells s part → Longest (length part) (part ++ rest) → Apart s rest → begins (part ++ rest) ≡ Some (s, length part)
symbol_reads (name p) part rest sp l a = name_back part rest (subst IsName (sym sp.0) sp.1) a ∙ ap (λ q. Some (name q, length part)) sp.0
symbol_reads (number p) part rest sp l a =
    let v = sp.1.0 in
    let e : number_value_of part ≡ Some v = ap number_value_of sp.0 ∙ sp.1.1 in
    let first = number_first part v e in
    number_back part rest (number_alnum part v e) a v first.0 first.1 e ∙ ap (λ q. Some (number q, length part)) sp.0
symbol_reads (character p) part rest sp l a = char_back part rest sp.1.0 (ap character_value_of sp.0 ∙ sp.1.1) a ∙ ap (λ q. Some (character q, length part)) sp.0
symbol_reads (word x) part rest sp l a = reserved_back x part rest sp a
symbol_reads (mark x) part rest sp l a =
    let plain = mark_plain x rest in
    let long = subst (λ q. Longest (length q) (q ++ rest)) sp l in
    let back = sym (begins_mark_lem (mark_spelling x ++ rest) _ _ refl refl plain.0 plain.1 plain.2) ∙ mark_back x rest long in
    subst (λ q. begins (q ++ rest) ≡ Some (mark x, length q)) (sym sp) back
symbol_reads ending part rest sp l a = absurd sp
