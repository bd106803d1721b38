use Rattle.std.proofs.Common.{◌≡◌, sym, ap, ◌∙◌, rules}
use Rattle.fault.specs.declared.Cause.TheVariants.{Syntax}
use Rattle.symbol.specs.Symbols.{sym_of}
use Rattle.symbol.specs.declared.mark.Mark.TheVariants.{Semicolon}
use Rattle.cursor.proofs.Loops.{within_list, further_turn, further_less, further_pushed, further_all}
use Rattle.cursor.proofs.Steps.{at_first, followed, follow, goes, onward, broke, made, refused, too_deep, list_is, list_pushed}
use Rattle.type_tree.specs.Trees.{sec_of}
use Rattle.type_tree.proofs.Nodes.{record_says}
use Rattle.type_parser.specs.Readers.{kind, of_enumeration, of_array, of_record, of_other}
use Rattle.type_parser.proofs.Within.{section_within, type_within}
use Rattle.type_parser.proofs.Moves.{type_at_lem, array_deep, array_is, record_deep, record_is, section_is}
use Rattle.type_parser.proofs.+types.Goals as goal

-- ---- type

pub type_expr-returns-in-Name : goal.type_expr-returns-in-Name
type_expr-returns-in-Name t c =
    follow (type_at_lem _ _ _ (at_first kind _ _ c.first.ensures (ap (λ s. kind (sym_of s)) c.in-Name.is)) ∙ rw (c.take.ensures.0, c.take.ensures.1))

pub type_expr-returns-in-Mark-LeftParen : goal.type_expr-returns-in-Mark-LeftParen
type_expr-returns-in-Mark-LeftParen t c =
    let k : kind (sym_of c.first.result.symbol) ≡ of_enumeration = search rules in
    goes c.enumeration.ensures (type_at_lem _ _ _ (at_first kind _ _ c.first.ensures k))

pub type_expr-returns-in-Word-Array : goal.type_expr-returns-in-Word-Array
type_expr-returns-in-Word-Array t c =
    let k : kind (sym_of c.first.result.symbol) ≡ of_array = search rules in
    goes c.array.ensures (type_at_lem _ _ _ (at_first kind _ _ c.first.ensures k))

pub type_expr-returns-in-Word-Record : goal.type_expr-returns-in-Word-Record
type_expr-returns-in-Word-Record t c =
    let k : kind (sym_of c.first.result.symbol) ≡ of_record = search rules in
    goes c.record.ensures (type_at_lem _ _ _ (at_first kind _ _ c.first.ensures k))

pub type_expr-returns-in_default : goal.type_expr-returns-in_default
type_expr-returns-in_default t c =
    let k : kind (sym_of c.first.result.symbol) ≡ of_other = search rules in
    refused _ Syntax _ c.halt.ensures (type_at_lem _ _ _ (at_first kind _ _ c.first.ensures k))

-- ---- array

pub array-returns-in_err-deeper : goal.array-returns-in_err-deeper
array-returns-in_err-deeper t c =
    too_deep _ _ _ _ c.from_residual.ensures.1 c.in_err-deeper.ensures (array_deep _ _)

pub array-returns-in_err-low : goal.array-returns-in_err-low
array-returns-in_err-low t c =
    broke _ c.from_residual-in_err-low.ensures.1 c.in_err-low.ensures
    (array_is _ _ _ _ _ c.first-place.ensures c.in_ok-deeper.ensures)

pub array-returns-in_err-pass : goal.array-returns-in_err-pass
array-returns-in_err-pass t c =
    broke _ c.from_residual-in_err-pass.ensures.1 c.in_err-pass.ensures
    (onward _ (array_is _ _ _ _ _ c.first-place.ensures c.in_ok-deeper.ensures) (followed c.in_ok-low.ensures))

pub array-returns-in_err-high : goal.array-returns-in_err-high
array-returns-in_err-high t c =
    broke _ c.from_residual-in_err-high.ensures.1 c.in_err-high.ensures
    (onward _ (onward _ (array_is _ _ _ _ _ c.first-place.ensures c.in_ok-deeper.ensures) (followed c.in_ok-low.ensures)) (followed c.in_ok-pass.ensures))

pub array-returns-in_err-pass-2 : goal.array-returns-in_err-pass-2
array-returns-in_err-pass-2 t c =
    broke _ c.from_residual-in_err-pass-2.ensures.1 c.in_err-pass-2.ensures
    (onward _ (onward _ (onward _ (array_is _ _ _ _ _ c.first-place.ensures c.in_ok-deeper.ensures) (followed c.in_ok-low.ensures)) (followed c.in_ok-pass.ensures)) (followed c.in_ok-high.ensures))

pub array-returns-in_err-element : goal.array-returns-in_err-element
array-returns-in_err-element t c =
    broke _ c.from_residual-in_err-element.ensures.1 c.in_err-element.ensures
    (onward _ (onward _ (onward _ (onward _ (array_is _ _ _ _ _ c.first-place.ensures c.in_ok-deeper.ensures) (followed c.in_ok-low.ensures)) (followed c.in_ok-pass.ensures)) (followed c.in_ok-high.ensures)) (followed c.in_ok-pass-2.ensures))

pub array-returns : goal.array-returns
array-returns t c =
    made (onward _ (onward _ (onward _ (onward _ (onward _ (array_is _ _ _ _ _ c.first-place.ensures c.in_ok-deeper.ensures) (followed c.in_ok-low.ensures)) (followed c.in_ok-pass.ensures)) (followed c.in_ok-high.ensures)) (followed c.in_ok-pass-2.ensures)) (followed c.in_ok-element.ensures)) c.in_ok-of_array.ensures

-- ---- section

pub section-returns-in_err-names : goal.section-returns-in_err-names
section-returns-in_err-names t c =
    broke _ c.from_residual.ensures.1 c.in_err-names.ensures (section_is _ _)

pub section-returns-in_err-pass : goal.section-returns-in_err-pass
section-returns-in_err-pass t c =
    broke _ c.from_residual-in_err-pass.ensures.1 c.in_err-pass.ensures (onward _ (section_is _ _) (followed c.in_ok-names.ensures))

pub section-returns-in_err-field : goal.section-returns-in_err-field
section-returns-in_err-field t c =
    broke _ c.from_residual-in_err-field.ensures.1 c.in_err-field.ensures (onward _ (onward _ (section_is _ _) (followed c.in_ok-names.ensures)) (followed c.in_ok-pass.ensures))

pub section-returns : goal.section-returns
section-returns t c =
    follow (onward _ (onward _ (onward _ (section_is _ _) (followed c.in_ok-names.ensures)) (followed c.in_ok-pass.ensures)) (followed c.in_ok-field.ensures))

-- ---- record

pub record-returns-in_err-deeper : goal.record-returns-in_err-deeper
record-returns-in_err-deeper t c =
    too_deep _ _ _ _ c.from_residual.ensures.1 c.in_err-deeper.ensures (record_deep _ _)

pub record-returns-in_err-first : goal.record-returns-in_err-first
record-returns-in_err-first t c =
    broke _ c.from_residual-in_err-first.ensures.1 c.in_err-first.ensures
    (record_is _ _ _ _ _ c.first-place.ensures c.in_ok-deeper.ensures ∙ within_list _ _ _ _ _ _ _ (list_is Semicolon _ _))

pub record-returns-in_err-next : goal.record-returns-in_err-next
record-returns-in_err-next t c =
    broke _ c.from_residual-in_err-next.ensures.1 c.in_err-next.ensures
    (record_is _ _ _ _ _ c.first-place.ensures c.in_ok-deeper.ensures
    ∙ within_list _ _ _ _ _ _ _
    (list_pushed Semicolon _ sec_of _ _ _ _ _ (followed c.in_ok-first.ensures) c.new-sections.ensures.items c.in_ok-append.ensures
    ∙ sym c.loop-cursor.invariant
    ∙ further_turn Semicolon _ (section_within _ (type_within _)) _ _ _ (sym c.loop-cursor-test.ensures) c.advance.ensures))

pub record-loop-cursor-smaller : goal.record-loop-cursor-smaller
record-loop-cursor-smaller t c =
    further_less Semicolon _ (section_within _ (type_within _)) _ _ _ _ (sym c.loop-cursor-test.ensures) c.advance.ensures (followed c.in_ok-next.ensures)

pub record-loop-cursor-preserved : goal.record-loop-cursor-preserved
record-loop-cursor-preserved t c =
    further_pushed Semicolon _ (section_within _ (type_within _)) sec_of _ _ _ _ _ _ (sym c.loop-cursor-test.ensures) c.advance.ensures (followed c.in_ok-next.ensures)
    c.in_ok-append-2.ensures c.loop-cursor.invariant

pub record-returns-in_err-pass : goal.record-returns-in_err-pass
record-returns-in_err-pass t c =
    broke _ c.from_residual-in_err-pass.ensures.1 c.in_err-pass.ensures
    (onward _ (record_is _ _ _ _ _ c.first-place.ensures c.in_ok-deeper.ensures)
    (list_pushed Semicolon _ sec_of _ _ _ _ _ (followed c.in_ok-first.ensures) c.new-sections.ensures.items c.in_ok-append.ensures
    ∙ further_all Semicolon _ (section_within _ (type_within _)) _ _ (sym c.loop-cursor-test.ensures) c.loop-cursor.invariant))

pub record-returns : goal.record-returns
record-returns t c =
    made
    (onward _
    (onward _ (record_is _ _ _ _ _ c.first-place.ensures c.in_ok-deeper.ensures)
    (list_pushed Semicolon _ sec_of _ _ _ _ _ (followed c.in_ok-first.ensures) c.new-sections.ensures.items c.in_ok-append.ensures
    ∙ further_all Semicolon _ (section_within _ (type_within _)) _ _ (sym c.loop-cursor-test.ensures) c.loop-cursor.invariant))
    (followed c.in_ok-pass.ensures))
    (record_says _ c.loop-cursor.sections)
