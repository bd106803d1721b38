-- A whole text: its symbols from any place on, and the laws. Assumes nothing.
use Rattle.std.proofs.Common.{◌≡◌, ℕ, zero, suc, ◌+◌, ◌-◌, ◌<◌, ◌≤◌, false, ◌⊎◌, List, [], ◌∷◌, ◌++◌, length, get_or, take, drop, Ok, Err, Result, sym, refl, ap, ◌∙◌, subst, inl, inr, add-zero, arith, length-drop}
use Rattle.std.proofs.lemmas.List.{append-nil, append_assoc, get_or-drop, length-take-le, take_all, drop-drop, take-append-drop}
use Rattle.fault.specs.declared.Fault.{Fault}
use Rattle.symbol.specs.Symbols.{Sym, PlacedSym}
use Rattle.scanner.specs.Gaps.{opening}
use Rattle.scanner.specs.Scan.{Step, step_to, scan}
use Rattle.scanner.proofs.Within.{Within, gap_within}
use Rattle.lexing.specs.Reading.{Stop, Reading, sym_is_ending, stopped_at, before, follow, read_from, symbols_of}
use Rattle.lexing.specs.Spelling.{Gap, Longest, Apart}
use Rattle.lexing.specs.Laws.{Woven, Stops, Lexed}
use Rattle.lexing.proofs.Blanks.{gap_blanks, gap_halts, halt_says}
use Rattle.lexing.proofs.Spelled.{Good}
use Rattle.lexing.proofs.Goods.{begins_good}
use Rattle.lexing.proofs.Steps.{Ended, Took, step_case, fault_within}

pub follow_symbol : (more : ℕ → Reading) (t : Sym) (k j : ℕ) → sym_is_ending t ≡ false → follow more (Ok (step_to t k j)) ≡ before (record { symbol = t; place = k }) (more j)
follow_symbol more t k j e = rw e

pub good : (text : List ℕ) (at : ℕ) (s : Step) (t : Took text at s) → Good (drop t.place text) t.symbol t.size
good text at s t =
    let left = length-drop t.place text in
    let before = length-drop at text in
    let below = t.below in
    let onward = t.onward in
    let halts = gap_halts 0 at (drop at text) t.place (omega arith) t.passed in
    let reach : at + (t.place - at) ≡ t.place = omega arith in
    let first : get_or (drop at text) (t.place - at) 0 ≡ get_or (drop t.place text) 0 0 = get_or-drop at text (t.place - at) 0 ∙ ap (λ i. get_or text i 0) (reach ∙ sym (add-zero t.place)) ∙ sym (get_or-drop t.place text 0 0) in
    let next : at + (t.place - at + 1) ≡ t.place + 1 = omega arith in
    let second : get_or (drop at text) (t.place - at + 1) 0 ≡ get_or (drop t.place text) 1 0 = get_or-drop at text (t.place - at + 1) 0 ∙ ap (λ i. get_or text i 0) next ∙ sym (get_or-drop t.place text 1 0) in
    let unopened = ap (λ b. opening b (get_or (drop t.place text) 1 0)) (sym first) ∙ ap (opening (get_or (drop at text) (t.place - at) 0)) (sym second) ∙ halt_says (get_or (drop at text) (t.place - at) 0) (get_or (drop at text) (t.place - at + 1) 0) halts in
    begins_good (drop t.place text) t.symbol t.size (omega arith) unopened t.front

module _ (text : List ℕ) (at : ℕ) (s : Step) (more : ℕ → Reading) where
  pub follow_ended : (e : Ended text at s) → follow more (Ok s) ≡ stopped_at (Ok e.place)
  follow_ended e = ap (λ x. follow more (Ok x)) e.is

  pub follow_took : (t : Took text at s) → follow more (Ok s) ≡ before (record { symbol = t.symbol; place = t.place }) (more (t.place + t.size))
  follow_took t = ap (λ x. follow more (Ok x)) t.is ∙ follow_symbol more t.symbol t.place (t.place + t.size) (good text at s t).proper

-- ---- enough turns

pub enough : (n m : ℕ) (text : List ℕ) (at : ℕ) → length text - at < n → length text - at < m → read_from n text at ≡ read_from m text at
unfolding read_from
enough zero m text at p q = absurd (omega arith)
enough (suc n) zero text at p q = absurd (omega arith)
enough (suc n) (suc m) text at p q = go (scan text at) refl (λ j. enough n m text j)
  where
    took : (s : Step) → ((j : ℕ) → length text - j < n → length text - j < m → read_from n text j ≡ read_from m text j) → Ended text at s ⊎ Took text at s → follow (read_from n text) (Ok s) ≡ follow (read_from m text) (Ok s)
    took s more (inl e) = follow_ended text at s (read_from n text) e ∙ sym (follow_ended text at s (read_from m text) e)
    took s more (inr t) =
        let onward = t.onward in
        let some = t.some in
        let fits = t.fits in
        follow_took text at s (read_from n text) t
        ∙ ap (before (record { symbol = t.symbol; place = t.place })) (more (t.place + t.size) (omega arith) (omega arith))
        ∙ sym (follow_took text at s (read_from m text) t)

    go : (r : Result Step Fault) → scan text at ≡ r → ((j : ℕ) → length text - j < n → length text - j < m → read_from n text j ≡ read_from m text j) → follow (read_from n text) r ≡ follow (read_from m text) r
    go (Err f) e more = refl
    go (Ok s) e more = took s more (step_case text at s e)

-- the symbols from the place `at` on
unfoldable pub rest : List ℕ → ℕ → Reading
rest text at = read_from (suc (length text - at)) text at

pub rest_whole : (text : List ℕ) → rest text 0 ≡ symbols_of text
unfolding rest
rest_whole text = enough (suc (length text - 0)) (suc (length text)) text 0 (omega arith) (omega arith)

module _ (text : List ℕ) (at : ℕ) where
  rest_is : (r : Result Step Fault) → scan text at ≡ r → rest text at ≡ follow (read_from (length text - at) text) r
  unfolding rest read_from
  rest_is r e = ap (follow (read_from (length text - at) text)) e

  pub rest_fault : (f : Fault) → scan text at ≡ Err f → rest text at ≡ stopped_at (Err f)
  rest_fault f e = rest_is (Err f) e

  pub rest_ended : (s : Step) → scan text at ≡ Ok s → (e : Ended text at s) → rest text at ≡ stopped_at (Ok e.place)
  rest_ended s e d = rest_is (Ok s) e ∙ follow_ended text at s (read_from (length text - at) text) d

  pub rest_took : (s : Step) → scan text at ≡ Ok s → (t : Took text at s) → rest text at ≡ before (record { symbol = t.symbol; place = t.place }) (rest text (t.place + t.size))
  unfolding rest
  rest_took s e t =
      let onward = t.onward in
      let some = t.some in
      let fits = t.fits in
      rest_is (Ok s) e
      ∙ follow_took text at s (read_from (length text - at) text) t
      ∙ ap (before (record { symbol = t.symbol; place = t.place })) (enough (length text - at) (suc (length text - (t.place + t.size))) text (t.place + t.size) (omega arith) (omega arith))

-- ---- the laws

module _ (text : List ℕ) (at : ℕ) (within : at ≤ length text) (s : Step) where
  -- the last gap goes to the text's end
  stops_end : (e : Ended text at s) → Stops at (drop at text) (Ok e.place)
  stops_end e =
      let left = length-drop at text in
      let over = e.over in
      let whole = take_all (e.place - at) (drop at text) (omega arith) in
      let blanks = subst (Gap 0) whole (gap_blanks 0 at (drop at text) e.place e.passed) in
      let inside = (subst (Within at (at + length (drop at text))) e.passed (gap_within 0 at (drop at text))).1 in
      (blanks, omega arith)

  -- a gap, a symbol and the rest
  woven : (t : Took text at s) → Woven at (drop at text) (record { symbol = t.symbol; place = t.place }) (drop (t.place + t.size) text)
  woven t =
      let k = t.place in
      let n = t.size in
      let onward = t.onward in
      let fits = t.fits in
      let below = t.below in
      let left = length-drop at text in
      let here = length-drop k text in
      let is = good text at s t in
      let gap-size : length (take (k - at) (drop at text)) ≡ k - at = length-take-le (k - at) (drop at text) (omega arith) in
      let size : length (take n (drop k text)) ≡ n = length-take-le n (drop k text) (omega arith) in
      let reach : at + (k - at) ≡ k = omega arith in
      let behind : drop (k - at) (drop at text) ≡ drop k text = drop-drop (k - at) at text ∙ ap (λ i. drop i text) reach in
      let joined : take n (drop k text) ++ drop (k + n) text ≡ drop k text = ap (λ xs. take n (drop k text) ++ xs) (sym (drop-drop n k text)) ∙ take-append-drop n (drop k text) in
      record {
        gap = take (k - at) (drop at text);
        part = take n (drop k text);
        joined = sym (take-append-drop (k - at) (drop at text)) ∙ ap (λ xs. take (k - at) (drop at text) ++ xs) (behind ∙ sym joined);
        blanks = gap_blanks 0 at (drop at text) k t.passed;
        place = omega arith;
        spelled = is.spelled;
        longest = subst (λ i. Longest i (take n (drop k text) ++ drop (k + n) text)) (sym size) (subst (Longest n) (sym joined) is.longest);
        apart = subst (Apart t.symbol) (drop-drop n k text) is.apart;
      }

pub lexed : (n : ℕ) (text : List ℕ) (at : ℕ) → at ≤ length text → length text - at < n → Lexed at (drop at text) (read_from n text at).list (read_from n text at).stop
unfolding read_from woven
lexed zero text at w h = absurd (omega arith)
lexed (suc n) text at w h = go (scan text at) refl (λ j. lexed n text j)
  where
    took : (s : Step) → ((j : ℕ) → j ≤ length text → length text - j < n → Lexed j (drop j text) (read_from n text j).list (read_from n text j).stop) → Ended text at s ⊎ Took text at s → Lexed at (drop at text) (follow (read_from n text) (Ok s)).list (follow (read_from n text) (Ok s)).stop
    took s more (inl e) = subst (λ (r : Reading). Lexed at (drop at text) r.list r.stop) (sym (follow_ended text at s (read_from n text) e)) (stops_end text at w s e)
    took s more (inr t) =
        let onward = t.onward in
        let some = t.some in
        let fits = t.fits in
        let here = length-drop t.place text in
        let size = length-take-le t.size (drop t.place text) (omega arith) in
        subst (λ (r : Reading). Lexed at (drop at text) r.list r.stop) (sym (follow_took text at s (read_from n text) t)) (
          drop (t.place + t.size) text,
          woven text at w s t,
          subst (λ j. Lexed j (drop (t.place + t.size) text) (read_from n text (t.place + t.size)).list (read_from n text (t.place + t.size)).stop) (ap (λ i. t.place + i) (sym size)) (more (t.place + t.size) fits (omega arith)),
        )

    go : (r : Result Step Fault) → scan text at ≡ r → ((j : ℕ) → j ≤ length text → length text - j < n → Lexed j (drop j text) (read_from n text j).list (read_from n text j).stop) → Lexed at (drop at text) (follow (read_from n text) r).list (follow (read_from n text) r).stop
    go (Err f) e more = fault_within text at f e
    go (Ok s) e more = took s more (step_case text at s e)

-- each symbol has a byte
pub few : (n : ℕ) (text : List ℕ) (at : ℕ) → length text - at < n → length (read_from n text at).list ≤ length text - at
unfolding read_from
few zero text at h = absurd (omega arith)
few (suc n) text at h = go (scan text at) refl (λ j. few n text j)
  where
    took : (s : Step) → ((j : ℕ) → length text - j < n → length (read_from n text j).list ≤ length text - j) → Ended text at s ⊎ Took text at s → length (follow (read_from n text) (Ok s)).list ≤ length text - at
    took s more (inl e) = subst (λ (r : Reading). length r.list ≤ length text - at) (sym (follow_ended text at s (read_from n text) e)) (omega arith)
    took s more (inr t) =
        let onward = t.onward in
        let some = t.some in
        let fits = t.fits in
        let rest-few = more (t.place + t.size) (omega arith) in
        subst (λ (r : Reading). length r.list ≤ length text - at) (sym (follow_took text at s (read_from n text) t)) (omega arith)

    go : (r : Result Step Fault) → scan text at ≡ r → ((j : ℕ) → length text - j < n → length (read_from n text j).list ≤ length text - j) → length (follow (read_from n text) r).list ≤ length text - at
    go (Err f) e more = omega arith
    go (Ok s) e more = took s more (step_case text at s e)

-- ---- reading step by step

-- symbols that were read, and then the rest
abbrev pub onto : List PlacedSym → Reading → Reading
onto ss r = record { list = ss ++ r.list; stop = r.stop }

pub onto_push : (ss : List PlacedSym) (s : PlacedSym) (r : Reading) → onto (ss ++ s ∷ []) r ≡ onto ss (before s r)
onto_push ss s r = rw append_assoc

pub onto_stop : (ss : List PlacedSym) (stop : Stop) → onto ss (stopped_at stop) ≡ record { list = ss; stop = stop }
onto_stop ss stop = rw append-nil
