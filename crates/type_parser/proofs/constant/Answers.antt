use Rattle.std.proofs.Common.{◌≡◌, true, None, ap, rules}
use Rattle.fault.specs.declared.Cause.TheVariants.{Syntax}
use Rattle.symbol.specs.Symbols.{sym_of}
use Rattle.cursor.proofs.Steps.{at_first, followed, follow, onward, broke, refused}
use Rattle.expression_parser.specs.Classes.{start}
use Rattle.type_parser.proofs.Moves.{constant_fault, constant_signed, constant_none, constant_number, constant_name_lem, constant_character_lem}
use Rattle.type_parser.proofs.constant.Goals as goal

pub returns-in_err-number : goal.returns-in_err-number
returns-in_err-number c = broke _ c.from_residual.ensures.1 c.in_err-number.ensures (constant_signed _ _ _ _ c.read_sign.ensures.0 c.in-Some.is c.read_sign.ensures.1)

pub returns-in-Some : goal.returns-in-Some
returns-in-Some c = follow (onward _ (constant_signed _ _ _ _ c.read_sign.ensures.0 c.in-Some.is c.read_sign.ensures.1) (followed c.in_ok-number.ensures))

pub returns-in-Number : goal.returns-in-Number
returns-in-Number c =
    let n : c.read_sign.result ≡ None = search rules in
    follow (constant_number _ _ _ _ _ _ c.read_sign.ensures.0 n c.read_sign.ensures.1 (at_first start _ _ c.first.ensures (ap (λ s. start (sym_of s)) c.in-Number.is))
    c.take.ensures.0 c.take.ensures.1)

pub returns-in-Name : goal.returns-in-Name
returns-in-Name c =
    let n : c.read_sign.result ≡ None = search rules in
    follow (constant_name_lem _ _ _ _ _ _ c.read_sign.ensures.0 n c.read_sign.ensures.1 (at_first start _ _ c.first.ensures (ap (λ s. start (sym_of s)) c.in-Name.is))
    c.take-in-Name.ensures.0 c.take-in-Name.ensures.1)

pub returns-in-Character : goal.returns-in-Character
returns-in-Character c =
    let n : c.read_sign.result ≡ None = search rules in
    follow (constant_character_lem _ _ _ _ _ _ c.read_sign.ensures.0 n c.read_sign.ensures.1 (at_first start _ _ c.first.ensures (ap (λ s. start (sym_of s)) c.in-Character.is))
    c.take-in-Character.ensures.0 c.take-in-Character.ensures.1)

pub returns-in_default-symbol : goal.returns-in_default-symbol
returns-in_default-symbol c =
    let n : c.read_sign.result ≡ None = search rules in
    let f : constant_fault (start (sym_of c.first.result.symbol)) ≡ true = search rules in
    refused _ Syntax _ c.halt.ensures (constant_none _ _ _ c.read_sign.ensures.0 n c.read_sign.ensures.1 (at_first (λ y. constant_fault (start y)) _ _ c.first.ensures f))
