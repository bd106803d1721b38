-- The next symbol, by what the gap and the bytes behind it are. Assumes nothing.
use Rattle.std.proofs.Common.{◌≡◌, ℕ, ◌+◌, ◌<◌, ◌≤◌, List, [], ◌∷◌, length, drop, Some, None, Ok, Err, Result, sym, refl, ap, ◌∙◌, subst, arith, length-drop}
use Rattle.std.proofs.lemmas.List.{drop_all}
use Rattle.fault.specs.declared.Fault.{Fault}
use Rattle.fault.specs.declared.Cause.TheVariants.{NoSymbol}
use Rattle.fault.specs.Numbers.{fault_at}
use Rattle.symbol.specs.declared.Placed.{Placed}
use Rattle.symbol.specs.Symbols.{Sym, name, number, character, word, mark, ending}
use Rattle.scanner.specs.Gaps.{gap}
use Rattle.scanner.specs.Fronts.{begins}
use Rattle.scanner.specs.Scan.{step_to, begun, symbol_here, scan}
use Rattle.scanner.specs.States.{Past, Forward}
use Rattle.scanner.proofs.Within.{Within, gap_within, Sized, begins_sized}

pub past_any : (s : Sym) (from behind : ℕ) → from < behind → Past s from behind
past_any (name p) from behind h = h
past_any (number p) from behind h = h
past_any (character p) from behind h = h
past_any (word w) from behind h = h
past_any (mark m) from behind h = h
past_any ending from behind h = omega arith

pub broken_forward : (r : Result Placed Fault) (f : Fault) (at : ℕ) → r ≡ Err f → Forward r at at
broken_forward (Ok p) f at e = let z : ◌≡◌ {A = ℕ} 0 1 = cc in absurd (omega arith)
broken_forward (Err g) f at e = refl

begun_here : (k : ℕ) (bs : List ℕ) → 0 < length bs → symbol_here k bs ≡ begun k (begins bs)
begun_here k [] h = absurd (omega arith)
begun_here k (b ∷ bs) h = refl

pub begins_size : (bs : List ℕ) (s : Sym) (n : ℕ) → 0 < length bs → Some (s, n) ≡ begins bs → (0 < n) × (n ≤ length bs)
begins_size bs s n h e = subst (Sized (length bs)) (sym e) (begins_sized bs h)

module _ (text : List ℕ) (at : ℕ) where
  pub scan_broken : (f : Fault) → Err f ≡ gap 0 at (drop at text) → Err f ≡ scan text at
  unfolding scan
  scan_broken f e = rw (← e)

  module _ (k : ℕ) (e : Ok k ≡ gap 0 at (drop at text)) where
    pub gap_onward : at ≤ k
    gap_onward = (subst (Within at (at + length (drop at text))) (sym e) (gap_within 0 at (drop at text))).0

    pub scan_end : length text ≤ k → Ok (step_to ending k k) ≡ scan text at
    unfolding scan
    scan_end h = rw (← e, drop_all k text h)

    module _ (h : k < length text) where
      some_left : 0 < length (drop k text)
      some_left = rw length-drop (omega arith)

      scan_here : begun k (begins (drop k text)) ≡ scan text at
      unfolding scan
      scan_here = rw (← e) (sym (begun_here k (drop k text) some_left))

      pub scan_none : None ≡ begins (drop k text) → Err (fault_at NoSymbol k) ≡ scan text at
      scan_none b = ap (begun k) b ∙ scan_here

      pub scan_some : (s : Sym) (n : ℕ) → Some (s, n) ≡ begins (drop k text) → Ok (step_to s k (k + n)) ≡ scan text at
      scan_some s n b = ap (begun k) b ∙ scan_here

      pub symbol_size : (s : Sym) (n : ℕ) → Some (s, n) ≡ begins (drop k text) → (0 < n) × (k + n ≤ length text)
      symbol_size s n b =
          let size = begins_size (drop k text) s n some_left b in
          let left = length-drop k text in
          (size.0, omega arith)
