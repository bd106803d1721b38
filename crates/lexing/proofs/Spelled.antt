-- What the scanner takes for a symbol is one, is the longest that begins there, and stands apart. Assumes nothing.
use Rattle.std.proofs.Common.{◌≡◌, ℕ, zero, suc, ◌<◌, ◌≤◌, Bool, true, false, cond, eqb, List, [], ◌∷◌, length, get_or, take, drop, is_some, Some, None, Option, sym, refl, ap, ◌∙◌, subst, arith}
use Rattle.std.proofs.lemmas.List.{length-take-le, get_or-take}
use Rattle.std.proofs.lemmas.Bool.Decides.{nat_tests}
use Rattle.std.specs.Char.{is_ascii_alphanumeric}
use Rattle.symbol.specs.Symbols.{Sym, name, number, character, word, mark, ending}
use Rattle.symbol.specs.Words.{mark_spelling}
use Rattle.symbol.specs.Values.{number_value_of, character_value_of, ordinal_value_of, quoted_value_of, plainly_quoted, quoted_quote}
use Rattle.scanner.specs.Fronts.{run, quotes}
use Rattle.lexing.specs.Reading.{sym_is_ending}
use Rattle.lexing.specs.Spelling.{letters_or_digits, Spells, Longest, Apart}
use Rattle.lexing.proofs.Runs.{both, run_holds, number_alnum, ordinal_alnum, word_alnum, mark_first}

pub record Good (bs : List ℕ) (t : Sym) (n : ℕ) : Type 0 where
  pub proper : sym_is_ending t ≡ false
  pub spelled : Spells t (take n bs)
  pub longest : Longest n bs
  pub apart : Apart t (drop n bs)

pub has_value : (o : Option ℕ) → is_some o ≡ true → (v : ℕ) × (o ≡ Some v)
has_value (Some v) e = (v, refl)
has_value None e = let z : ◌≡◌ {A = ℕ} 0 1 = cc in absurd (omega arith)

-- ---- beginnings

pub first_of : (n : ℕ) (bs : List ℕ) → 0 < n → get_or (take n bs) 0 0 ≡ get_or bs 0 0
first_of zero bs h = absurd (omega arith)
first_of (suc n) [] h = refl
first_of (suc n) (b ∷ bs) h = refl

pub first_alnum : (bs : List ℕ) → 0 < length bs → letters_or_digits bs ≡ true → is_ascii_alphanumeric (get_or bs 0 0) ≡ true
first_alnum [] h e = absurd (omega arith)
first_alnum (b ∷ bs) h e = (both (is_ascii_alphanumeric b) (letters_or_digits bs) e).0

-- a character is in quotes, or has letters and digits only
pub unquoted : (bs : List ℕ) (v : ℕ) → eqb (get_or bs 0 0) 34 ≡ false → character_value_of bs ≡ Some v → letters_or_digits bs ≡ true
unquoted bs v e h = ordinal_alnum bs v (rw e at h)

quoted : (bs : List ℕ) (v : ℕ) → eqb (get_or bs 0 0) 34 ≡ true → character_value_of bs ≡ Some v → quoted_value_of bs ≡ Some v
quoted bs v e h = subst (λ x. cond x (quoted_value_of bs) (ordinal_value_of bs) ≡ Some v) e h

-- three bytes, or four of which the second is a quote
quoted_length : (bs : List ℕ) (v : ℕ) → quoted_value_of bs ≡ Some v → length bs ≤ 4 × (length bs ≡ 4 → get_or bs 1 0 ≡ 34)
quoted_length bs v h = go (plainly_quoted bs) (quoted_quote bs) refl refl h
  where
    go : (x y : Bool) → plainly_quoted bs ≡ x → quoted_quote bs ≡ y → cond x (Some (get_or bs 1 0)) (cond y (Some 34) None) ≡ Some v → length bs ≤ 4 × (length bs ≡ 4 → get_or bs 1 0 ≡ 34)
    go true y e f g = let three : length bs ≡ 3 = grind (arith, nat_tests) in (omega arith, λ four. absurd (omega arith))
    go false true e f g = (grind (arith, nat_tests), λ _. grind (arith, nat_tests))
    go false false e f g = let z : ◌≡◌ {A = ℕ} 0 1 = cc in absurd (omega arith)

-- ---- the longest

module _ (bs : List ℕ) (some : 0 < length bs) where
  -- behind a run nothing is a symbol that begins with it
  pub run_longest : is_ascii_alphanumeric (get_or bs 0 0) ≡ true → Longest (run bs) bs
  run_longest e s n l h spelled = go s spelled
    where
      first : get_or (take n bs) 0 0 ≡ get_or bs 0 0
      first = first_of n bs (omega arith)

      size : length (take n bs) ≡ n
      size = length-take-le n bs h

      over : letters_or_digits (take n bs) ≡ true → ⊥
      over a = let r = run_holds n bs h a in omega arith

      go : (s : Sym) → Spells s (take n bs) → ⊥
      go (name part) p = over (ap letters_or_digits p.0 ∙ p.1.rest)
      go (number part) p = over (number_alnum (take n bs) p.1.0 (ap number_value_of p.0 ∙ p.1.1))
      go (character part) p =
          let plain : eqb (get_or (take n bs) 0 0) 34 ≡ false = grind (arith, nat_tests, first) in
          over (unquoted (take n bs) p.1.0 plain (ap character_value_of p.0 ∙ p.1.1))
      go (word w) p = over (word_alnum w (take n bs) p)
      go (mark x) p =
          let f = sym first ∙ ap (λ xs. get_or xs 0 0) p in
          let z : ◌≡◌ {A = Bool} true false = sym e ∙ ap is_ascii_alphanumeric f ∙ (mark_first x).0 in
          let y : ◌≡◌ {A = ℕ} 0 1 = cc in
          omega arith
      go ending p = p

  -- what begins with a quote has three bytes, or four
  pub quote_longest : get_or bs 0 0 ≡ 34 → Longest (quotes bs) bs
  quote_longest e s n l h spelled = go s spelled
    where
      long : (b : Bool) → 3 ≤ cond b 4 3
      long true = omega arith
      long false = omega arith

      first : get_or (take n bs) 0 0 ≡ 34
      first = let k = long (eqb (get_or bs 1 0) 34) in first_of n bs (omega arith) ∙ e

      size : length (take n bs) ≡ n
      size = length-take-le n bs h

      no_run : letters_or_digits (take n bs) ≡ true → ⊥
      no_run a =
          let k = long (eqb (get_or bs 1 0) 34) in
          let z : ◌≡◌ {A = Bool} true false = sym (first_alnum (take n bs) (omega (arith, size)) a) ∙ ap is_ascii_alphanumeric first in
          let y : ◌≡◌ {A = ℕ} 0 1 = cc in
          omega arith

      go : (s : Sym) → Spells s (take n bs) → ⊥
      go (name part) p = no_run (ap letters_or_digits p.0 ∙ p.1.rest)
      go (number part) p = no_run (number_alnum (take n bs) p.1.0 (ap number_value_of p.0 ∙ p.1.1))
      go (character part) p =
          let k = long (eqb (get_or bs 1 0) 34) in
          let in-quotes : eqb (get_or (take n bs) 0 0) 34 ≡ true = rw first in
          let q = quoted_length (take n bs) p.1.0 (quoted (take n bs) p.1.0 in-quotes (ap character_value_of p.0 ∙ p.1.1)) in
          let few = q.0 in
          let four : length (take n bs) ≡ 4 = omega (arith, size) in
          let second : get_or bs 1 0 ≡ 34 = sym (get_or-take n bs 1 0 (omega (arith, size))) ∙ q.1 four in
          let is : quotes bs ≡ 4 = rw second in
          omega (arith, size)
      go (word w) p = no_run (word_alnum w (take n bs) p)
      go (mark x) p =
          let f : get_or (mark_spelling x) 0 0 ≡ 34 = sym (ap (λ xs. get_or xs 0 0) p) ∙ first in
          let z : ◌≡◌ {A = Bool} true false = sym (ap (λ b. eqb b 34) f) ∙ (mark_first x).1 in
          let y : ◌≡◌ {A = ℕ} 0 1 = cc in
          omega arith
      go ending p = p
