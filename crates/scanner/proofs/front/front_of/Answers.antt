use Rattle.std.proofs.Common.{◌≡◌, false, eqb, ◌∙◌, rules}
use Rattle.std.specs.Char.{is_ascii_alphabetic, is_ascii_digit}
use Rattle.scanner.proofs.Fronts.{begins_word_lem, begins_digit_lem, begins_quote_lem, begins_mark_lem}
use Rattle.scanner.proofs.front.front_of.Goals as goal

pub returns-in-34 : goal.returns-in-34
returns-in-34 c = search (rules, begins_quote_lem)

pub returns-in-0-to-9 : goal.returns-in-0-to-9
returns-in-0-to-9 c = search (rules, begins_digit_lem)

pub returns-in-a-to-z : goal.returns-in-a-to-z
returns-in-a-to-z c = search (rules, begins_word_lem)

pub returns-in_default : goal.returns-in_default
returns-in_default c =
    let no-letter : is_ascii_alphabetic c.char_at-first.result ≡ false = search rules in
    let no_digit : is_ascii_digit c.char_at-first.result ≡ false = search rules in
    let no-quote : eqb c.char_at-first.result 34 ≡ false = search rules in
    c.mark_front.ensures
    ∙ begins_mark_lem c.args.text.now _ _ c.char_at-first.ensures c.char_at.ensures no-letter no_digit no-quote
