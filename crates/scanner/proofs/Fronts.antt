-- Which kind of symbol begins. Assumes nothing.
use Rattle.std.proofs.Common.{◌≡◌, ℕ, true, false, eqb, List, get_or}
use Rattle.std.specs.Char.{is_ascii_alphabetic, is_ascii_digit}
use Rattle.scanner.specs.Fronts.{begins_word, begins_digit, begins_quote, begins_mark, begins}

module _ (bs : List ℕ) where
  pub begins_word_lem : is_ascii_alphabetic (get_or bs 0 0) ≡ true → begins_word bs ≡ begins bs
  unfolding begins
  begins_word_lem e = rw e

  pub begins_digit_lem : is_ascii_alphabetic (get_or bs 0 0) ≡ false → is_ascii_digit (get_or bs 0 0) ≡ true → begins_digit bs ≡ begins bs
  unfolding begins
  begins_digit_lem e f = rw (e, f)

  pub begins_quote_lem : get_or bs 0 0 ≡ 34 → begins_quote bs ≡ begins bs
  unfolding begins
  begins_quote_lem e = rw e

  pub begins_mark_lem : (b c : ℕ) → b ≡ get_or bs 0 0 → c ≡ get_or bs 1 0 → is_ascii_alphabetic b ≡ false → is_ascii_digit b ≡ false → eqb b 34 ≡ false → begins_mark b c ≡ begins bs
  unfolding begins
  begins_mark_lem b c first second e f g = rw (← first, ← second, e, f, g)
