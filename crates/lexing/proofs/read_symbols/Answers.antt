use Rattle.std.proofs.Common.{◌≡◌, [], ◌∷◌, ◌++◌, map, is_ok, vec_items, ap, ◌∙◌, arith}
use Rattle.std.proofs.ResultArms.{chosen}
use Rattle.symbol.specs.Symbols.{sym_of, placed_of}
use Rattle.scanner.specs.Scan.{scan}
use Rattle.scanner.specs.States.{place_in}
use Rattle.lexing.specs.Reading.{Reading, sym_is_ending, symbols_of}
use Rattle.lexing.proofs.Turns.{not_ending, map_push, by_fault, by_end, goes_on, by_symbol}
use Rattle.lexing.proofs.Only.{laws}
use Rattle.lexing.proofs.Whole.{rest, onto, rest_whole}
use Rattle.lexing.proofs.read_symbols.Goals as goal
use Rattle.lexing.proofs.read_symbols.Goals.{in-Err, in-Ok+in-End}

pub loop-fault-init : goal.loop-fault-init
loop-fault-init c =
    let text = c.args.text.now in
    let starts = c.in_ok-scanner.ensures in
    let at = starts.1.1 in
    let nothing : map placed_of (vec_items c.new-list.result) ≡ [] = ap (map placed_of) c.new-list.ensures.items in
    (starts.1.0, omega arith, starts.0, ap (λ ss. onto ss (rest text (place_in c.in_ok-scanner.scanner))) nothing ∙ ap (λ k. onto [] (rest text k)) at ∙ rest_whole text)

pub returns : goal.returns
returns c =
    let text = c.args.text.now in
    let at = place_in c.loop-fault.scanner in
    let inv = c.loop-fault.invariant in
    let ss = map placed_of (vec_items c.loop-fault.list) in
    let is : ◌≡◌ {A = Reading} (record { list = ss; stop = c.match-next.stop }) (symbols_of text) = elim c.match-next.branch [
      | in-Err w ↦
          let e = w.in-Err.ensures.answer ∙ ap (λ xs. scan xs at) inv.0 in
          ap (λ s. record { list = ss; stop = s }) w.stop-is ∙ by_fault text at ss inv.3 w.in-Err.fault e
      | in-Ok+in-End w ↦
          let e = w.in-Ok.ensures.answer ∙ ap (λ xs. scan xs at) inv.0 in
          ap (λ s. record { list = ss; stop = s }) w.stop-is ∙ by_end text at ss inv.3 (placed_of w.in-Ok.next) _ e (ap (λ s. sym_is_ending (sym_of s)) w.in-End.is)
    ] in
    record { value = (inv.2, is); law = laws text _ is }

pub loop-fault-smaller : goal.loop-fault-smaller
loop-fault-smaller c =
    let text = c.args.text.now in
    let at = place_in c.loop-fault.scanner in
    let inv = c.loop-fault.invariant in
    let e = c.in-Ok.ensures.answer ∙ ap (λ xs. scan xs at) inv.0 in
    let on = goes_on text at (map placed_of (vec_items c.loop-fault.list)) inv.3 (placed_of c.in-Ok.next) (place_in c.next.new.self) e (not_ending c.in-Ok.next.symbol c.in_default.not-End) in
    let ahead = on.0 in
    let fits = on.1 in
    omega arith

pub loop-fault-preserved : goal.loop-fault-preserved
loop-fault-preserved c =
    let text = c.args.text.now in
    let at = place_in c.loop-fault.scanner in
    let inv = c.loop-fault.invariant in
    let ss = map placed_of (vec_items c.loop-fault.list) in
    let next = c.in-Ok.next in
    let e = c.in-Ok.ensures.answer ∙ ap (λ xs. scan xs at) inv.0 in
    let proper = not_ending next.symbol c.in_default.not-End in
    let on = goes_on text at ss inv.3 (placed_of next) (place_in c.next.new.self) e proper in
    let pushed = chosen _ _ _ _ c.push.ensures.items (ap is_ok c.in_ok-push-in_default.was) in
    let listed : map placed_of (vec_items c.push.new.self) ≡ ss ++ placed_of next ∷ [] = ap (map placed_of) pushed ∙ map_push (vec_items c.loop-fault.list) next in (
      c.in-Ok.ensures.text ∙ inv.0,
      on.1,
      inv.2,
      ap (λ xs. onto xs (rest text (place_in c.next.new.self))) listed ∙ by_symbol text at ss inv.3 (placed_of next) (place_in c.next.new.self) e proper,
    )
