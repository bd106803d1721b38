-- One turn of reading, as the code makes it. Assumes nothing.
use Rattle.std.proofs.Common.{◌≡◌, ℕ, ◌+◌, ◌<◌, ◌≤◌, Bool, true, false, ◌⊎◌, List, [], ◌∷◌, ◌++◌, map, length, Ok, Err, sym, refl, ap, ◌∙◌, inl, inr, arith}
use Rattle.fault.specs.declared.Fault.{Fault}
use Rattle.symbol.specs.declared.Placed.{Placed}
use Rattle.symbol.specs.declared.Symbol.{Symbol}
use Rattle.symbol.specs.declared.Symbol.TheVariants as coded
use Rattle.symbol.specs.Symbols.{ending, PlacedSym, sym_of, placed_of}
use Rattle.scanner.specs.Scan.{Step, scan}
use Rattle.lexing.specs.Reading.{Reading, sym_is_ending, before, symbols_of}
use Rattle.lexing.proofs.Steps.{Ended, Took, step_case}
use Rattle.lexing.proofs.Whole.{good, rest, rest_fault, rest_ended, rest_took, onto, onto_push, onto_stop}

pub not_ending : (s : Symbol) → (s ≡ coded.End → ⊥) → sym_is_ending (sym_of s) ≡ false
not_ending (coded.Name p) h = refl
not_ending (coded.Number p) h = refl
not_ending (coded.Character p) h = refl
not_ending (coded.Word w) h = refl
not_ending (coded.Mark m) h = refl
not_ending coded.End h = absurd (h refl)

pub map_push : (xs : List Placed) (x : Placed) → map placed_of (xs ++ x ∷ []) ≡ map placed_of xs ++ placed_of x ∷ []
map_push [] x = refl
map_push (y ∷ xs) x = ap (λ l. placed_of y ∷ l) (map_push xs x)

apart : (b : Bool) → b ≡ true → b ≡ false → ⊥
apart b e f = let z : ◌≡◌ {A = ℕ} 0 1 = cc in omega arith

module _ (text : List ℕ) (at : ℕ) (ss : List PlacedSym) (whole : onto ss (rest text at) ≡ symbols_of text) where
  pub by_fault : (f : Fault) → Err f ≡ scan text at → ◌≡◌ {A = Reading} (record { list = ss; stop = Err f }) (symbols_of text)
  by_fault f e = sym (onto_stop ss (Err f)) ∙ ap (onto ss) (sym (rest_fault text at f (sym e))) ∙ whole

  module _ (p : PlacedSym) (j : ℕ) (e : Ok (record { read = p; behind = j }) ≡ scan text at) where
    pub by_end : sym_is_ending p.symbol ≡ true → ◌≡◌ {A = Reading} (record { list = ss; stop = Ok p.place }) (symbols_of text)
    by_end h = go (step_case text at (record { read = p; behind = j }) (sym e))
      where
        go : Ended text at (record { read = p; behind = j }) ⊎ Took text at (record { read = p; behind = j }) → ◌≡◌ {A = Reading} (record { list = ss; stop = Ok p.place }) (symbols_of text)
        go (inl d) =
            let place : p.place ≡ d.place = ap (λ (s : Step). s.read.place) d.is in
            ap (λ k. record { list = ss; stop = Ok k }) place
            ∙ sym (onto_stop ss (Ok d.place)) ∙ ap (onto ss) (sym (rest_ended text at _ (sym e) d)) ∙ whole
        go (inr t) =
            let is : p.symbol ≡ t.symbol = ap (λ (s : Step). s.read.symbol) t.is in
            absurd (apart (sym_is_ending t.symbol) (ap sym_is_ending (sym is) ∙ h) (good text at _ t).proper)

    took : sym_is_ending p.symbol ≡ false → Took text at (record { read = p; behind = j })
    took h = go (step_case text at (record { read = p; behind = j }) (sym e))
      where
        go : Ended text at (record { read = p; behind = j }) ⊎ Took text at (record { read = p; behind = j }) → Took text at (record { read = p; behind = j })
        go (inl d) =
            let is : p.symbol ≡ ending = ap (λ (s : Step). s.read.symbol) d.is in
            absurd (apart (sym_is_ending p.symbol) (ap sym_is_ending is) h)
        go (inr t) = t

    pub goes_on : sym_is_ending p.symbol ≡ false → (at < j) × (j ≤ length text)
    goes_on h =
        let t = took h in
        let behind : j ≡ t.place + t.size = ap (λ (s : Step). s.behind) t.is in
        let onward = t.onward in
        let some = t.some in
        let fits = t.fits in
        (omega arith, omega arith)

    pub by_symbol : sym_is_ending p.symbol ≡ false → onto (ss ++ p ∷ []) (rest text j) ≡ symbols_of text
    by_symbol h =
        let t = took h in
        let behind : j ≡ t.place + t.size = ap (λ (s : Step). s.behind) t.is in
        let is : p ≡ record { symbol = t.symbol; place = t.place } = ap (λ (s : Step). s.read) t.is in
        onto_push ss p (rest text j)
        ∙ ap (λ q. onto ss (before q (rest text j))) is
        ∙ ap (λ k. onto ss (before (record { symbol = t.symbol; place = t.place }) (rest text k))) behind
        ∙ ap (onto ss) (sym (rest_took text at _ (sym e) t))
        ∙ whole
