use Rattle.std.proofs.Common.{Err, refl, ap, ◌∙◌, arith, rules}
use Rattle.std.proofs.lemmas.List.{take_rest}
use Rattle.symbol.specs.Symbols.{sym_of}
use Rattle.scanner.specs.Fronts.{begins}
use Rattle.scanner.specs.States.{next_place}
use Rattle.scanner.proofs.Scans.{past_any, broken_forward, scan_broken, gap_onward, scan_end, scan_none, scan_some, symbol_size}
use Rattle.scanner.proofs.scanner.Scanner.next.Goals as goal

pub returns-in_err-place : goal.returns-in_err-place
returns-in_err-place c = grind (arith, scan_broken, broken_forward)

pub returns-then-place-self : goal.returns-then-place-self
returns-then-place-self c =
    let text = c.args.self.now.text.now in
    let at = c.args.self.now.at in
    let k = c.in_ok-place.place in
    let e = scan_end text at k c.in_ok-place.ensures c.if-place-self.true in
    record { answer = e; after = ap (λ r. next_place r at) e; text = refl; forward = gap_onward text at k c.in_ok-place.ensures }

pub overflow_add-self : goal.overflow_add-self
overflow_add-self c =
    let text = c.args.self.now.text.now in
    let k = c.in_ok-place.place in
    let size = symbol_size text c.args.self.now.at k c.in_ok-place.ensures c.if-place-self.false _ _ (c.in-Some.ensures ∙ ap begins (take_rest text k)) in
    search rules

pub returns-in_default : goal.returns-in_default
returns-in_default c =
    let text = c.args.self.now.text.now in
    let at = c.args.self.now.at in
    let k = c.in_ok-place.place in
    let e = ap Err c.new.ensures ∙ scan_none text at k c.in_ok-place.ensures c.if-place-self.false (c.in_default.ensures ∙ ap begins (take_rest text k)) in
    record { answer = e; after = ap (λ r. next_place r at) e; text = refl; forward = refl }

pub returns : goal.returns
returns c =
    let text = c.args.self.now.text.now in
    let at = c.args.self.now.at in
    let k = c.in_ok-place.place in
    let b = c.in-Some.ensures ∙ ap begins (take_rest text k) in
    let e = scan_some text at k c.in_ok-place.ensures c.if-place-self.false _ _ b in
    let size = symbol_size text at k c.in_ok-place.ensures c.if-place-self.false _ _ b in
    let on = gap_onward text at k c.in_ok-place.ensures in
    record { answer = e; after = ap (λ r. next_place r at) e; text = refl; forward = past_any (sym_of c.in-Some.front.symbol) at _ (omega arith) }
