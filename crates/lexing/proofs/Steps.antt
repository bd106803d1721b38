-- One step of the scanner, taken apart. Assumes nothing.
use Rattle.std.proofs.Common.{◌≡◌, ℕ, ◌+◌, ◌<◌, ◌≤◌, ◌⊎◌, List, [], ◌∷◌, length, drop, Some, None, Ok, Err, Result, refl, ap, subst, inl, inr, arith, length-drop}
use Rattle.fault.specs.declared.Fault.{Fault}
use Rattle.fault.specs.declared.Cause.TheVariants.{NoSymbol}
use Rattle.fault.specs.Numbers.{fault_at}
use Rattle.symbol.specs.Symbols.{Sym, ending}
use Rattle.scanner.specs.Gaps.{gap}
use Rattle.scanner.specs.Fronts.{Begun, begins}
use Rattle.scanner.specs.Scan.{Step, step_to, and_then, begun, symbol_here, scan}
use Rattle.scanner.proofs.Within.{Within, gap_within, Sized, begins_sized}

-- the step led to the text's end
pub record Ended (text : List ℕ) (at : ℕ) (s : Step) : Type 0 where
  pub place : ℕ
  pub passed : gap 0 at (drop at text) ≡ Ok place
  pub over : length text ≤ place
  pub is : s ≡ step_to ending place place

-- the step took a symbol of `size` bytes
pub record Took (text : List ℕ) (at : ℕ) (s : Step) : Type 0 where
  pub place : ℕ
  pub symbol : Sym
  pub size : ℕ
  pub passed : gap 0 at (drop at text) ≡ Ok place
  pub below : place < length text
  pub front : begins (drop place text) ≡ Some (symbol, size)
  pub is : s ≡ step_to symbol place (place + size)
  pub onward : at ≤ place
  pub some : 0 < size
  pub fits : place + size ≤ length text

module _ (text : List ℕ) (at : ℕ) where
  gap_from : (k : ℕ) → gap 0 at (drop at text) ≡ Ok k → at ≤ k
  gap_from k e = (subst (Within at (at + length (drop at text))) e (gap_within 0 at (drop at text))).0

  none_left : (k : ℕ) → drop k text ≡ [] → length text ≤ k
  none_left k e =
      let left = length-drop k text in
      let none = ap length e in
      omega arith

  some_left : (k b : ℕ) (bs : List ℕ) → drop k text ≡ b ∷ bs → k < length text
  some_left k b bs e =
      let left = length-drop k text in
      let some = ap length e in
      omega arith

  took : (k : ℕ) (s : Step) → gap 0 at (drop at text) ≡ Ok k → k < length text → (o : Begun) → begins (drop k text) ≡ o → begun k o ≡ Ok s → Took text at s
  took k s e h None f g = let z : ◌≡◌ {A = ℕ} 0 1 = cc in absurd (omega arith)
  took k s e h (Some p) f g =
      let left = length-drop k text in
      let some : 0 < length (drop k text) = omega arith in
      let size = subst (Sized (length (drop k text))) f (begins_sized (drop k text) some) in
      let long = size.1 in
      let is : s ≡ step_to p.0 k (k + p.1) = cc in
      record { place = k; symbol = p.0; size = p.1; passed = e; below = h; front = f; is = is; onward = gap_from k e; some = size.0; fits = omega arith }

  here : (k : ℕ) (s : Step) → gap 0 at (drop at text) ≡ Ok k → (bs : List ℕ) → drop k text ≡ bs → symbol_here k bs ≡ Ok s → Ended text at s ⊎ Took text at s
  here k s e [] f g =
      let is : s ≡ step_to ending k k = cc in
      inl (record { place = k; passed = e; over = none_left k f; is = is })
  here k s e (b ∷ bs) f g = inr (took k s e (some_left k b bs f) (begins (b ∷ bs)) (ap begins f) g)

  pub step_case : (s : Step) → scan text at ≡ Ok s → Ended text at s ⊎ Took text at s
  unfolding scan
  step_case s e = go (gap 0 at (drop at text)) refl e
    where
      go : (g : Result ℕ Fault) → gap 0 at (drop at text) ≡ g → and_then g (λ k. symbol_here k (drop k text)) ≡ Ok s → Ended text at s ⊎ Took text at s
      go (Ok k) p q = here k s p (drop k text) refl q
      go (Err f) p q = let z : ◌≡◌ {A = ℕ} 0 1 = cc in absurd (omega arith)

  -- a fault stands within the text
  begun_fault : (k : ℕ) (f : Fault) (o : Begun) → begun k o ≡ Err f → f ≡ fault_at NoSymbol k
  begun_fault k f None e = cc
  begun_fault k f (Some p) e = let z : ◌≡◌ {A = ℕ} 0 1 = cc in absurd (omega arith)

  here_fault : (k : ℕ) (f : Fault) (bs : List ℕ) → symbol_here k bs ≡ Err f → f ≡ fault_at NoSymbol k
  here_fault k f [] e = let z : ◌≡◌ {A = ℕ} 0 1 = cc in absurd (omega arith)
  here_fault k f (b ∷ bs) e = begun_fault k f (begins (b ∷ bs)) e

  pub fault_within : (f : Fault) → scan text at ≡ Err f → (at ≤ f.place) × (f.place ≤ at + length (drop at text))
  unfolding scan
  fault_within f e = go (gap 0 at (drop at text)) refl e
    where
      go : (g : Result ℕ Fault) → gap 0 at (drop at text) ≡ g → and_then g (λ k. symbol_here k (drop k text)) ≡ Err f → (at ≤ f.place) × (f.place ≤ at + length (drop at text))
      go (Ok k) p q =
          let is = ap (λ (x : Fault). x.place) (here_fault k f (drop k text) q) in
          let w = subst (Within at (at + length (drop at text))) p (gap_within 0 at (drop at text)) in
          let lo = w.0 in
          let hi = w.1 in
          (omega arith, omega arith)
      go (Err x) p q =
          let same : x ≡ f = cc in
          subst (λ (y : Fault). (at ≤ y.place) × (y.place ≤ at + length (drop at text))) same (subst (Within at (at + length (drop at text))) p (gap_within 0 at (drop at text)))
