use Rattle.std.proofs.Common.{◌≡◌, ◌+◌, ◌*◌, ◌++◌, map, length}
use Rattle.symbol.specs.declared.mark.Mark.TheVariants.{Semicolon}
use Rattle.cursor.specs.Reading.{mapped, further_of}
use Rattle.type_tree.specs.Trees.{sec_of}
use Rattle.type_parser.specs.Readers.{section_of, type_expr_of}
use Rattle.type_parser.proofs.+types.Given as goal

-- every cycle opens a construct, which takes one from the allowance; the rank tells who calls whom at the same allowance

abbrev pub decreases-section : goal.decreases-section
decreases-section l = l.allowance * 4 + 3

abbrev pub decreases-type_expr : goal.decreases-type_expr
decreases-type_expr l = l.allowance * 4 + 2

abbrev pub decreases-array : goal.decreases-array
decreases-array l = l.allowance * 4 + 1

abbrev pub decreases-record : goal.decreases-record
decreases-record l = l.allowance * 4

-- what is read so far, and the repetition from here on

abbrev pub invariant-record-loop-cursor : goal.invariant-record-loop-cursor
invariant-record-loop-cursor l =
    mapped (λ xs. map sec_of l.sections.items ++ xs) (further_of Semicolon (section_of (type_expr_of l.deeper)) l.cursor)
    ≡ mapped (λ xs. map sec_of l.initial.sections.items ++ xs) (further_of Semicolon (section_of (type_expr_of l.deeper)) l.initial.cursor)

abbrev pub decreases-record-loop-cursor : goal.decreases-record-loop-cursor
decreases-record-loop-cursor l = length l.cursor
