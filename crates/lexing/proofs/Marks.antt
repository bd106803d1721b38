-- The marks: each is the longest that begins there. Assumes nothing.
use Rattle.std.proofs.Common.{◌≡◌, ℕ, zero, suc, ◌<◌, ◌≤◌, Bool, true, false, cond, eqb, List, [], ◌∷◌, length, get_or, take, drop, Some, None, sym, refl, ap, ◌∙◌, subst, arith, eqb-true, rules}
use Rattle.std.proofs.lemmas.List.{length-take-le, get_or-take, get_or-drop}
use Rattle.std.specs.Char.{is_ascii_alphanumeric}
use Rattle.symbol.specs.declared.mark.Mark.{Mark}
use Rattle.symbol.specs.declared.mark.Mark.TheVariants as m
use Rattle.symbol.specs.Symbols.{Sym, name, number, character, word, mark, ending}
use Rattle.symbol.specs.Words.{mark_spelling}
use Rattle.symbol.specs.Values.{number_value_of, character_value_of}
use Rattle.scanner.specs.Fronts.{Begun, begins_mark}
use Rattle.scanner.specs.Gaps.{opening}
use Rattle.lexing.specs.Reading.{sym_is_ending}
use Rattle.lexing.specs.Spelling.{letters_or_digits, Spells, Longest, Apart}
use Rattle.lexing.proofs.Runs.{number_alnum, word_alnum, mark_short}
use Rattle.lexing.proofs.Spelled.{Good, first_of, first_alnum, unquoted}

-- how many bytes begin
abbrev bytes : Begun → ℕ
bytes None = 0
bytes (Some f) = f.1

take_one : (bs : List ℕ) (b : ℕ) → 0 < length bs → get_or bs 0 0 ≡ b → take 1 bs ≡ b ∷ []
take_one [] b h e = absurd (omega arith)
take_one (x ∷ bs) b h e = ap (λ y. y ∷ []) e

take_two : (bs : List ℕ) (b c : ℕ) → 0 < length bs → 0 < c → get_or bs 0 0 ≡ b → get_or bs 1 0 ≡ c → take 2 bs ≡ b ∷ c ∷ []
take_two [] b c h k e f = absurd (omega arith)
take_two (x ∷ []) b c h k e f = absurd (omega arith)
take_two (x ∷ y ∷ bs) b c h k e f = rw (e, f)

-- ---- what begins is the mark, written out

module _ (bs : List ℕ) (some : 0 < length bs) where
  abbrev Written : Begun → Type 0
  Written None = Unit {0}
  Written (Some f) = (x : Mark) × (f.0 ≡ mark x) × (take f.1 bs ≡ mark_spelling x) × (0 < f.1)

  by : (b : Bool) (x y : Begun) → (b ≡ true → Written x) → (b ≡ false → Written y) → Written (cond b x y)
  by true x y h k = h refl
  by false x y h k = k refl

  one_byte : (x : Mark) (b : ℕ) → mark_spelling x ≡ b ∷ [] → eqb (get_or bs 0 0) b ≡ true → Written (Some (mark x, 1))
  one_byte x b s e = (x, refl, take_one bs b some (eqb-true (get_or bs 0 0) b e) ∙ sym s, omega arith)

  two_bytes : (x : Mark) (b c : ℕ) → mark_spelling x ≡ b ∷ c ∷ [] → 0 < c → eqb (get_or bs 0 0) b ≡ true → eqb (get_or bs 1 0) c ≡ true → Written (Some (mark x, 2))
  two_bytes x b c s k e f = (x, refl, take_two bs b c some k (eqb-true (get_or bs 0 0) b e) (eqb-true (get_or bs 1 0) c f) ∙ sym s, omega arith)

  written : Written (begins_mark (get_or bs 0 0) (get_or bs 1 0))
  written =
      let b = get_or bs 0 0 in
      let c = get_or bs 1 0 in
      (by (eqb b 43) _ _ (λ e. one_byte m.Plus 43 refl e) (λ _.
      (by (eqb b 45) _ _ (λ e. one_byte m.Minus 45 refl e) (λ _.
      (by (eqb b 42) _ _ (λ e. one_byte m.Times 42 refl e) (λ _.
      (by (eqb b 47) _ _ (λ e. one_byte m.Slash 47 refl e) (λ _.
      (by (eqb b 61) _ _ (λ e. one_byte m.Equal 61 refl e) (λ _.
      (by (eqb b 60) _ _ (λ e. by (eqb c 62) _ _ (λ f. two_bytes m.NotEqual 60 62 refl (omega arith) e f) (λ _. by (eqb c 61) _ _ (λ f. two_bytes m.LessEqual 60 61 refl (omega arith) e f) (λ _. one_byte m.Less 60 refl e))) (λ _.
      (by (eqb b 62) _ _ (λ e. by (eqb c 61) _ _ (λ f. two_bytes m.GreaterEqual 62 61 refl (omega arith) e f) (λ _. one_byte m.Greater 62 refl e)) (λ _.
      (by (eqb b 58) _ _ (λ e. by (eqb c 61) _ _ (λ f. two_bytes m.Becomes 58 61 refl (omega arith) e f) (λ _. one_byte m.Colon 58 refl e)) (λ _.
      (by (eqb b 40) _ _ (λ e. one_byte m.LeftParen 40 refl e) (λ _.
      (by (eqb b 41) _ _ (λ e. one_byte m.RightParen 41 refl e) (λ _.
      (by (eqb b 91) _ _ (λ e. one_byte m.LeftBracket 91 refl e) (λ _.
      (by (eqb b 93) _ _ (λ e. one_byte m.RightBracket 93 refl e) (λ _.
      (by (eqb b 46) _ _ (λ e. one_byte m.Dot 46 refl e) (λ _.
      (by (eqb b 44) _ _ (λ e. one_byte m.Comma 44 refl e) (λ _.
      (by (eqb b 59) _ _ (λ e. one_byte m.Semicolon 59 refl e) (λ _.
      tt))))))))))))))))))))))))))))))

-- ---- no longer mark begins there

doubled : (x : Mark) → 2 ≤ length (mark_spelling x) → begins_mark (get_or (mark_spelling x) 0 0) (get_or (mark_spelling x) 1 0) ≡ Some (mark x, 2)
doubled x h = search rules

-- no mark of two bytes begins like a comment
unopened_two : (x : Mark) (c : ℕ) → 2 ≤ length (mark_spelling x) → opening (get_or (mark_spelling x) 0 0) c ≡ false
unopened_two x c h = search rules

-- what stands behind the n bytes of a mark opens no comment with it
module _ (bs : List ℕ) (unopened : opening (get_or bs 0 0) (get_or bs 1 0) ≡ false) where
  mark_apart : (x : Mark) (n : ℕ) → 0 < n → n ≤ length bs → take n bs ≡ mark_spelling x → Apart (mark x) (drop n bs)
  mark_apart x zero p h e = absurd (omega arith)
  mark_apart x (suc zero) p h e =
      let first : get_or (mark_spelling x) 0 0 ≡ get_or bs 0 0 = sym (ap (λ xs. get_or xs 0 0) e) ∙ first_of 1 bs p in
      rw (first, get_or-drop 1 bs 0 0) unopened
  mark_apart x (suc (suc n)) p h e =
      let size : length (take (suc (suc n)) bs) ≡ suc (suc n) = length-take-le (suc (suc n)) bs h in
      let long = ap length e in
      unopened_two x (get_or (drop (suc (suc n)) bs) 0 0) (omega arith)

module _ (bs : List ℕ) (some : 0 < length bs) (no_run : is_ascii_alphanumeric (get_or bs 0 0) ≡ false) (no-quote : eqb (get_or bs 0 0) 34 ≡ false) (unopened : opening (get_or bs 0 0) (get_or bs 1 0) ≡ false) where
  mark_longest : (t : Sym) (n : ℕ) → 0 < n → begins_mark (get_or bs 0 0) (get_or bs 1 0) ≡ Some (t, n) → Longest n bs
  mark_longest t n p e s k l h spelled = go s spelled
    where
      size : length (take k bs) ≡ k
      size = length-take-le k bs h

      first : get_or (take k bs) 0 0 ≡ get_or bs 0 0
      first = first_of k bs (omega arith)

      over : letters_or_digits (take k bs) ≡ true → ⊥
      over a =
          let z : ◌≡◌ {A = Bool} true false = sym (first_alnum (take k bs) (omega (arith, size)) a) ∙ ap is_ascii_alphanumeric first ∙ no_run in
          let y : ◌≡◌ {A = ℕ} 0 1 = cc in
          omega arith

      go : (s : Sym) → Spells s (take k bs) → ⊥
      go (name part) q = over (ap letters_or_digits q.0 ∙ q.1.rest)
      go (number part) q = over (number_alnum (take k bs) q.1.0 (ap number_value_of q.0 ∙ q.1.1))
      go (character part) q =
          let plain : eqb (get_or (take k bs) 0 0) 34 ≡ false = ap (λ b. eqb b 34) first ∙ no-quote in
          over (unquoted (take k bs) q.1.0 plain (ap character_value_of q.0 ∙ q.1.1))
      go (word w) q = over (word_alnum w (take k bs) q)
      go (mark x) q =
          let long : length (mark_spelling x) ≡ k = sym (ap length q) ∙ size in
          let short = mark_short x in
          let b : get_or (mark_spelling x) 0 0 ≡ get_or bs 0 0 = sym (ap (λ xs. get_or xs 0 0) q) ∙ first in
          let c : get_or (mark_spelling x) 1 0 ≡ get_or bs 1 0 = sym (ap (λ xs. get_or xs 1 0) q) ∙ get_or-take k bs 1 0 (omega arith) in
          let is : ◌≡◌ {A = Begun} (Some (mark x, 2)) (Some (t, n)) = sym (doubled x (omega arith)) ∙ ap (λ y. begins_mark y (get_or (mark_spelling x) 1 0)) b ∙ ap (begins_mark (get_or bs 0 0)) c ∙ e in
          let two : n ≡ 2 = sym (ap bytes is) in
          omega arith
      go ending q = q

  pub mark_good : (t : Sym) (n : ℕ) → n ≤ length bs → begins_mark (get_or bs 0 0) (get_or bs 1 0) ≡ Some (t, n) → Good bs t n
  mark_good t n h e =
      let w = subst (Written bs some) e (written bs some) in
      record {
        proper = ap sym_is_ending w.1;
        spelled = subst (λ s. Spells s (take n bs)) (sym w.1) w.2;
        longest = mark_longest t n w.3 e;
        apart = subst (λ s. Apart s (drop n bs)) (sym w.1) (mark_apart bs unopened w.0 n w.3 h w.2);
      }
