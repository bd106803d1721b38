-- A text can be parted into gaps and symbols in one way only, and that is how it is read. Assumes nothing.
use Rattle.std.proofs.Common.{◌≡◌, ℕ, zero, suc, ◌+◌, ◌-◌, ◌<◌, ◌≤◌, Bool, true, false, cond, eqb, ◌⊎◌, List, [], ◌∷◌, ◌++◌, map, length, get_or, drop, Some, Ok, sym, refl, ap, ◌∙◌, subst, inl, inr, arith, length-append, length-drop, rules}
use Rattle.std.proofs.lemmas.List.{append-nil, drop-drop}
use Rattle.std.proofs.lemmas.Bool.Decides.{nat_tests}
use Rattle.std.specs.Char.{is_ascii_alphanumeric, is_ascii_alphabetic, to_ascii_lowercase}
use Rattle.symbol.specs.declared.mark.Mark.{Mark}
use Rattle.symbol.specs.declared.word.Word.{Word}
use Rattle.symbol.specs.Symbols.{Sym, name, number, character, word, mark, ending, PlacedSym}
use Rattle.symbol.specs.Words.{mark_spelling, word_spelling}
use Rattle.symbol.specs.Values.{number_value_of, character_value_of, quoted_value_of, ordinal_value_of}
use Rattle.scanner.specs.declared.gap.Move.TheVariants as to
use Rattle.scanner.specs.Gaps.{move_of, gap}
use Rattle.scanner.specs.Fronts.{begins}
use Rattle.scanner.specs.Scan.{step_to, scan}
use Rattle.scanner.proofs.Scans.{scan_end, scan_some}
use Rattle.lexing.specs.Reading.{Reading, sym_is_ending, before, follow, read_from, symbols_of}
use Rattle.lexing.specs.Spelling.{letters_or_digits, Spells, Apart, Gap}
use Rattle.lexing.specs.Laws.{Woven, Lexed, Laws}
use Rattle.lexing.proofs.Back.{gap_reads, symbol_reads, head, number_first, ordinal_says, quoted_says, three_at_least, spelling_short, length_lower, nonempty}
use Rattle.lexing.proofs.Runs.{number_alnum, word_alnum}
use Rattle.lexing.proofs.Spelled.{first_alnum}
use Rattle.lexing.proofs.Whole.{follow_symbol, lexed, few}

drop_joined : (xs ys : List ℕ) → drop (length xs) (xs ++ ys) ≡ ys
drop_joined [] ys = refl
drop_joined (x ∷ xs) ys = drop_joined xs ys

-- ---- what begins a symbol ends a gap

alnum_halts : (b c : ℕ) → is_ascii_alphanumeric b ≡ true → move_of 0 b c ≡ to.Stop
alnum_halts b c e = grind (arith, nat_tests)

quote_halts : (b c : ℕ) → b ≡ 34 → move_of 0 b c ≡ to.Stop
quote_halts b c e = grind (arith, nat_tests)

mark_halts : (x : Mark) (rest : List ℕ) → Apart (mark x) rest → move_of 0 (get_or (mark_spelling x ++ rest) 0 0) (get_or (mark_spelling x ++ rest) 1 0) ≡ to.Stop
mark_halts x rest a = search rules

mark_some : (x : Mark) → 0 < length (mark_spelling x)
mark_some x = search rules

-- a character has bytes, and begins with a quote or a digit
character_says : (part : List ℕ) (v : ℕ) → character_value_of part ≡ Some v → (0 < length part) × ((get_or part 0 0 ≡ 34) ⊎ (is_ascii_alphanumeric (get_or part 0 0) ≡ true))
character_says part v e = go (eqb (get_or part 0 0) 34) refl e
  where
    go : (x : Bool) → eqb (get_or part 0 0) 34 ≡ x → cond x (quoted_value_of part) (ordinal_value_of part) ≡ Some v → (0 < length part) × ((get_or part 0 0 ≡ 34) ⊎ (is_ascii_alphanumeric (get_or part 0 0) ≡ true))
    go true f q =
        let says = quoted_says part v q in
        let size = says.0 in
        let three = three_at_least (eqb (get_or part 1 0) 34) in
        (omega arith, inl says.1)
    go false f q =
        let says = ordinal_says part v q in
        let digit = says.0 in
        let alnum : is_ascii_alphanumeric (get_or part 0 0) ≡ true = grind (arith, nat_tests) in
        (says.1, inr alnum)

word_some : (x : Word) (part : List ℕ) → map to_ascii_lowercase part ≡ word_spelling x → 0 < length part
word_some x part e =
    let size : length part ≡ length (word_spelling x) = sym (length_lower part) ∙ ap length e in
    let some = (spelling_short x).0 in
    omega arith

spells_some : (s : Sym) (part : List ℕ) → Spells s part → 0 < length part
spells_some (name p) part sp = nonempty part (ap (λ q. is_ascii_alphabetic (get_or q 0 0)) sp.0 ∙ sp.1.first)
spells_some (number p) part sp = (number_first part sp.1.0 (ap number_value_of sp.0 ∙ sp.1.1)).1
spells_some (character p) part sp = (character_says part sp.1.0 (ap character_value_of sp.0 ∙ sp.1.1)).0
spells_some (word x) part sp = word_some x part sp
spells_some (mark x) part sp = subst (λ q. 0 < length q) (sym sp) (mark_some x)
spells_some ending part sp = absurd sp

run_halts : (part rest : List ℕ) → 0 < length part → letters_or_digits part ≡ true → move_of 0 (get_or (part ++ rest) 0 0) (get_or (part ++ rest) 1 0) ≡ to.Stop
run_halts part rest h e = alnum_halts (get_or (part ++ rest) 0 0) (get_or (part ++ rest) 1 0) (ap is_ascii_alphanumeric (head part rest h) ∙ first_alnum part h e)

symbol_halts : (s : Sym) (part rest : List ℕ) → Spells s part → Apart s rest → move_of 0 (get_or (part ++ rest) 0 0) (get_or (part ++ rest) 1 0) ≡ to.Stop
symbol_halts (name p) part rest sp a = run_halts part rest (spells_some (name p) part sp) (ap letters_or_digits sp.0 ∙ sp.1.rest)
symbol_halts (number p) part rest sp a = run_halts part rest (spells_some (number p) part sp) (number_alnum part sp.1.0 (ap number_value_of sp.0 ∙ sp.1.1))
symbol_halts (character p) part rest sp a =
    let says = character_says part sp.1.0 (ap character_value_of sp.0 ∙ sp.1.1) in
    let first = head part rest says.0 in
    elim says.1 [
      | inl q ↦ quote_halts (get_or (part ++ rest) 0 0) (get_or (part ++ rest) 1 0) (first ∙ q)
      | inr q ↦ alnum_halts (get_or (part ++ rest) 0 0) (get_or (part ++ rest) 1 0) (ap is_ascii_alphanumeric first ∙ q)
    ]
symbol_halts (word x) part rest sp a = run_halts part rest (word_some x part sp) (word_alnum x part sp)
symbol_halts (mark x) part rest sp a = subst (λ q. move_of 0 (get_or (q ++ rest) 0 0) (get_or (q ++ rest) 1 0) ≡ to.Stop) (sym sp) (mark_halts x rest a)
symbol_halts ending part rest sp a = absurd sp

proper : (s : Sym) (part : List ℕ) → Spells s part → sym_is_ending s ≡ false
proper (name p) part sp = refl
proper (number p) part sp = refl
proper (character p) part sp = refl
proper (word x) part sp = refl
proper (mark x) part sp = refl
proper ending part sp = absurd sp

-- ---- the whole text

module _ (text : List ℕ) (at : ℕ) (within : at ≤ length text) where
  -- the last gap
  ends : (k : ℕ) → Gap 0 (drop at text) → k ≡ at + length (drop at text) → Ok (step_to ending k k) ≡ scan text at
  ends k g e =
      let left = length-drop at text in
      let passed : Ok k ≡ gap 0 at (drop at text) = ap Ok e ∙ sym (gap_reads [] (inl refl) at 0 (drop at text) g) ∙ ap (gap 0 at) (append-nil (drop at text)) in
      scan_end text at k passed (omega arith)

  -- one symbol
  module _ (s : PlacedSym) (rest : List ℕ) (w : Woven at (drop at text) s rest) where
    here : drop s.place text ≡ w.part ++ rest
    here = ap (λ i. drop i text) w.place ∙ sym (drop-drop (length w.gap) at text) ∙ ap (drop (length w.gap)) w.joined ∙ drop_joined w.gap (w.part ++ rest)

    pub behind : drop (s.place + length w.part) text ≡ rest
    behind = sym (drop-drop (length w.part) s.place text) ∙ ap (drop (length w.part)) here ∙ drop_joined w.part rest

    pub some : 0 < length w.part
    some = spells_some s.symbol w.part w.spelled

    sizes : length text - s.place ≡ length w.part + length rest
    sizes = sym (length-drop s.place text) ∙ ap length here ∙ length-append w.part rest

    pub onward : at ≤ s.place
    onward = let p = w.place in omega arith

    below : s.place < length text
    below =
        let n = sizes in
        let h = some in
        omega arith

    pub fits : s.place + length w.part ≤ length text
    fits =
        let n = sizes in
        let h = below in
        omega arith

    pub takes : Ok (step_to s.symbol s.place (s.place + length w.part)) ≡ scan text at
    takes =
        let halts = symbol_halts s.symbol w.part rest w.spelled w.apart in
        let passed : Ok s.place ≡ gap 0 at (drop at text) = ap Ok w.place ∙ sym (gap_reads (w.part ++ rest) (inr halts) at 0 w.gap w.blanks) ∙ ap (gap 0 at) (sym w.joined) in
        let front = ap begins here ∙ symbol_reads s.symbol w.part rest w.spelled w.longest w.apart in
        scan_some text at s.place passed below s.symbol (length w.part) (sym front)

pub only_from : (n : ℕ) (text : List ℕ) (at : ℕ) → at ≤ length text → length text - at < n → (ts : List PlacedSym) (k : ℕ) → Lexed at (drop at text) ts (Ok k) → read_from n text at ≡ record { list = ts; stop = Ok k }
unfolding read_from
only_from zero text at w h ts k l = absurd (omega arith)
only_from (suc n) text at w h [] k l = ap (follow (read_from n text)) (sym (ends text at w k l.0 l.1))
only_from (suc n) text at w h (s ∷ ss) k l =
    let rest = l.0 in
    let v = l.1 in
    let j = s.place + length v.part in
    let ahead = onward text at w s rest v in
    let bytes = some text at w s rest v in
    let inside = fits text at w s rest v in
    let more = only_from n text j inside (omega arith) ss k (subst (λ xs. Lexed j xs ss (Ok k)) (sym (behind text at w s rest v)) l.2) in
    ap (follow (read_from n text)) (sym (takes text at w s rest v))
    ∙ follow_symbol (read_from n text) s.symbol s.place j (proper s.symbol v.part v.spelled)
    ∙ ap (before s) more

pub only : (text : List ℕ) (ts : List PlacedSym) (k : ℕ) → Lexed 0 text ts (Ok k) → symbols_of text ≡ record { list = ts; stop = Ok k }
only text ts k l = only_from (suc (length text)) text 0 (omega arith) (omega arith) ts k l

-- ---- all laws of a text that was read

pub laws : (text : List ℕ) (r : Reading) → r ≡ symbols_of text → Laws text r.list r.stop
laws text r e =
    subst (λ (x : Reading). Laws text x.list x.stop) (sym e)
    (let count = few (suc (length text)) text 0 (omega arith) in
    record {
      lexed = lexed (suc (length text)) text 0 (omega arith) (omega arith);
      only = λ ts k l. (sym (ap (λ (x : Reading). x.list) (only text ts k l)), sym (ap (λ (x : Reading). x.stop) (only text ts k l)));
      few = omega arith;
    })
