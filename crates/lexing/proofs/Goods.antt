-- Every front that the scanner finds is a symbol, the longest, and stands apart. Assumes nothing.
use Rattle.std.proofs.Common.{◌≡◌, ℕ, ◌<◌, ◌≤◌, Bool, true, false, cond, not, ◌&&◌, eqb, leb, List, length, get_or, take, is_some, Some, None, Option, sym, refl, ap, ◌∙◌, subst, add-zero, arith, eqb-true}
use Rattle.std.proofs.lemmas.List.{length-take-le, get_or-drop, get_or_past}
use Rattle.std.proofs.lemmas.List.Sums.{prefix_len-le-length}
use Rattle.std.proofs.lemmas.Bool.Decides.{nat_tests}
use Rattle.std.specs.Char.{is_ascii_alphanumeric, is_ascii_alphabetic, is_ascii_digit}
use Rattle.symbol.specs.declared.word.Word.{Word}
use Rattle.symbol.specs.Symbols.{Sym, number, character}
use Rattle.symbol.specs.Words.{reserved}
use Rattle.symbol.specs.Values.{number_value_of, character_value_of}
use Rattle.symbol.proofs.Reserved.{reserves}
use Rattle.scanner.specs.Fronts.{Begun, run, word_or, quotes, begins_mark, begins}
use Rattle.scanner.specs.Gaps.{opening}
use Rattle.scanner.proofs.Within.{run_some, Sized, sized_mark}
use Rattle.lexing.proofs.Runs.{both, run_all, run_stops}
use Rattle.lexing.proofs.Spelled.{Good, first_of, has_value, run_longest, quote_longest}
use Rattle.lexing.proofs.Marks.{mark_good}

abbrev AllGood : List ℕ → Begun → Type 0
AllGood bs None = Unit {0}
AllGood bs (Some f) = Good bs f.0 f.1

good_cond : (bs : List ℕ) (b : Bool) (x y : Begun) → (b ≡ true → AllGood bs x) → (b ≡ false → AllGood bs y) → AllGood bs (cond b x y)
good_cond bs true x y h k = h refl
good_cond bs false x y h k = k refl

letter_alnum : (b : ℕ) → is_ascii_alphabetic b ≡ true → is_ascii_alphanumeric b ≡ true
letter_alnum b e = grind (arith, nat_tests)

digit_alnum : (b : ℕ) → is_ascii_digit b ≡ true → is_ascii_alphanumeric b ≡ true
digit_alnum b e = grind (arith, nat_tests)

neither_alnum : (b : ℕ) → is_ascii_alphabetic b ≡ false → is_ascii_digit b ≡ false → is_ascii_alphanumeric b ≡ false
neither_alnum b e f = grind (arith, nat_tests)

module _ (bs : List ℕ) (some : 0 < length bs) (unopened : opening (get_or bs 0 0) (get_or bs 1 0) ≡ false) where
  fits : run bs ≤ length bs
  fits = prefix_len-le-length is_ascii_alphanumeric bs

  -- a name or a reserved word
  word_good : is_ascii_alphabetic (get_or bs 0 0) ≡ true → leb (run bs) 24 ≡ true → (o : Option Word) → o ≡ reserved (take (run bs) bs) → Good bs (word_or o (take (run bs) bs)) (run bs)
  word_good e l (Some w) r =
      record {
        proper = refl;
        spelled = reserves (take (run bs) bs) (Some w) r;
        longest = run_longest bs some (letter_alnum (get_or bs 0 0) e);
        apart = run_stops bs;
      }
  word_good e l None r =
      let short : run bs ≤ 24 = grind (arith, nat_tests) in
      let size = length-take-le (run bs) bs fits in
      let begun = run_some bs some (letter_alnum (get_or bs 0 0) e) in
      record {
        proper = refl;
        spelled = (refl, record { first = ap is_ascii_alphabetic (first_of (run bs) bs begun) ∙ e; rest = run_all bs; short = omega arith; free = reserves (take (run bs) bs) None r });
        longest = run_longest bs some (letter_alnum (get_or bs 0 0) e);
        apart = run_stops bs;
      }

  number_good : is_ascii_digit (get_or bs 0 0) ≡ true → is_some (number_value_of (take (run bs) bs)) ≡ true → Good bs (number (take (run bs) bs)) (run bs)
  number_good e v =
      record {
        proper = refl;
        spelled = (refl, has_value (number_value_of (take (run bs) bs)) v);
        longest = run_longest bs some (digit_alnum (get_or bs 0 0) e);
        apart = run_stops bs;
      }

  ordinal_good : is_ascii_digit (get_or bs 0 0) ≡ true → is_some (character_value_of (take (run bs) bs)) ≡ true → Good bs (character (take (run bs) bs)) (run bs)
  ordinal_good e v =
      record {
        proper = refl;
        spelled = (refl, has_value (character_value_of (take (run bs) bs)) v);
        longest = run_longest bs some (digit_alnum (get_or bs 0 0) e);
        apart = run_stops bs;
      }

  not_true : (b : Bool) → not b ≡ true → b ≡ false
  not_true true e = sym e
  not_true false e = refl

  quote_good : get_or bs 0 0 ≡ 34 → (leb (quotes bs) (length bs) && (is_some (character_value_of (take (quotes bs) bs)) && not (is_ascii_alphanumeric (get_or bs (quotes bs) 0)))) ≡ true → Good bs (character (take (quotes bs) bs)) (quotes bs)
  quote_good e h =
      let outer = both (leb (quotes bs) (length bs)) (is_some (character_value_of (take (quotes bs) bs)) && not (is_ascii_alphanumeric (get_or bs (quotes bs) 0))) h in
      let inner = both (is_some (character_value_of (take (quotes bs) bs))) (not (is_ascii_alphanumeric (get_or bs (quotes bs) 0))) outer.1 in
      record {
        proper = refl;
        spelled = (refl, has_value (character_value_of (take (quotes bs) bs)) inner.0);
        longest = quote_longest bs some e;
        apart = ap is_ascii_alphanumeric (get_or-drop (quotes bs) bs 0 0 ∙ ap (λ k. get_or bs k 0) (add-zero (quotes bs))) ∙ not_true (is_ascii_alphanumeric (get_or bs (quotes bs) 0)) inner.1;
      }

  marks_fit : (t : Sym) (n : ℕ) → begins_mark (get_or bs 0 0) (get_or bs 1 0) ≡ Some (t, n) → n ≤ length bs
  marks_fit t n e = (subst (Sized (length bs)) e (sized_mark (get_or bs 0 0) (get_or bs 1 0) (length bs) some (λ l. get_or_past bs 1 0 (omega arith)))).1

  marks_good : is_ascii_alphanumeric (get_or bs 0 0) ≡ false → eqb (get_or bs 0 0) 34 ≡ false → (o : Begun) → begins_mark (get_or bs 0 0) (get_or bs 1 0) ≡ o → AllGood bs o
  marks_good e f None h = tt
  marks_good e f (Some p) h = mark_good bs some e f unopened p.0 p.1 (marks_fit p.0 p.1 h) h

  all_good : AllGood bs (begins bs)
  unfolding begins
  all_good =
      let b = get_or bs 0 0 in
      good_cond bs (is_ascii_alphabetic b) _ _
      (λ e. good_cond bs (leb (run bs) 24) _ _ (λ l. word_good e l (reserved (take (run bs) bs)) refl) (λ _. tt))
      (λ e. good_cond bs (is_ascii_digit b) _ _
      (λ f. good_cond bs (is_some (number_value_of (take (run bs) bs))) _ _ (λ v. number_good f v)
      (λ _. good_cond bs (is_some (character_value_of (take (run bs) bs))) _ _ (λ v. ordinal_good f v) (λ _. tt)))
      (λ f. good_cond bs (eqb b 34) _ _
      (λ g. good_cond bs (leb (quotes bs) (length bs) && (is_some (character_value_of (take (quotes bs) bs)) && not (is_ascii_alphanumeric (get_or bs (quotes bs) 0)))) _ _ (λ h. quote_good (eqb-true b 34 g) h) (λ _. tt))
      (λ g. marks_good (neither_alnum b e f) g (begins_mark b (get_or bs 1 0)) refl)))

pub begins_good : (bs : List ℕ) (t : Sym) (n : ℕ) → 0 < length bs → opening (get_or bs 0 0) (get_or bs 1 0) ≡ false → begins bs ≡ Some (t, n) → Good bs t n
begins_good bs t n h o e = subst (AllGood bs) e (all_good bs h o)
