use Rattle.std.proofs.Common.{◌≡◌, ◌+◌, ◌*◌, ◌++◌, map, length}
use Rattle.symbol.specs.declared.mark.Mark.TheVariants.{Comma}
use Rattle.cursor.specs.Reading.{inner, mapped, further_of}
use Rattle.expression_tree.specs.Trees.{addend_of, multiplier_of, sel_of, expr_of}
use Rattle.expression_parser.specs.Readers.{addends_of, multipliers_of, selectors_of, expression_of, factor}
use Rattle.expression_parser.proofs.+expressions.Given as goal

-- every cycle opens a construct, which takes one from the allowance; the rank tells who calls whom at the same allowance

abbrev pub decreases-expression : goal.decreases-expression
decreases-expression l = l.allowance * 9 + 8

abbrev pub decreases-simple : goal.decreases-simple
decreases-simple l = l.allowance * 9 + 7

abbrev pub decreases-addends : goal.decreases-addends
decreases-addends l = l.allowance * 9 + 6

abbrev pub decreases-term : goal.decreases-term
decreases-term l = l.allowance * 9 + 5

abbrev pub decreases-multipliers : goal.decreases-multipliers
decreases-multipliers l = l.allowance * 9 + 4

abbrev pub decreases-factor : goal.decreases-factor
decreases-factor l = l.allowance * 9 + 3

abbrev pub decreases-named : goal.decreases-named
decreases-named l = l.allowance * 9 + 2

abbrev pub decreases-selectors : goal.decreases-selectors
decreases-selectors l = l.allowance * 9 + 1

abbrev pub decreases-enclosed : goal.decreases-enclosed
decreases-enclosed l = l.allowance * 9

-- what is read so far, and the repetition from here on

abbrev pub invariant-addends-loop-adding : goal.invariant-addends-loop-adding
invariant-addends-loop-adding l =
    mapped (λ xs. map addend_of l.addends.items ++ xs) (addends_of (factor l.allowance) l.cursor)
    ≡ mapped (λ xs. map addend_of l.initial.addends.items ++ xs) (addends_of (factor l.allowance) l.initial.cursor)

abbrev pub decreases-addends-loop-adding : goal.decreases-addends-loop-adding
decreases-addends-loop-adding l = length l.cursor

abbrev pub invariant-multipliers-loop-multiplying : goal.invariant-multipliers-loop-multiplying
invariant-multipliers-loop-multiplying l =
    mapped (λ xs. map multiplier_of l.multipliers.items ++ xs) (multipliers_of (factor l.allowance) l.cursor)
    ≡ mapped (λ xs. map multiplier_of l.initial.multipliers.items ++ xs) (multipliers_of (factor l.allowance) l.initial.cursor)

abbrev pub decreases-multipliers-loop-multiplying : goal.decreases-multipliers-loop-multiplying
decreases-multipliers-loop-multiplying l = length l.cursor

abbrev pub invariant-selectors-loop-cursor : goal.invariant-selectors-loop-cursor
invariant-selectors-loop-cursor l =
    mapped (λ xs. map sel_of l.selectors.items ++ xs) (selectors_of (inner factor l.allowance) l.cursor)
    ≡ mapped (λ xs. map sel_of l.initial.selectors.items ++ xs) (selectors_of (inner factor l.allowance) l.initial.cursor)

abbrev pub decreases-selectors-loop-cursor : goal.decreases-selectors-loop-cursor
decreases-selectors-loop-cursor l = length l.cursor

abbrev pub invariant-enclosed-loop-cursor : goal.invariant-enclosed-loop-cursor
invariant-enclosed-loop-cursor l =
    mapped (λ xs. map expr_of l.list.items ++ xs) (further_of Comma (expression_of (factor l.deeper)) l.cursor)
    ≡ mapped (λ xs. map expr_of l.initial.list.items ++ xs) (further_of Comma (expression_of (factor l.deeper)) l.initial.cursor)

abbrev pub decreases-enclosed-loop-cursor : goal.decreases-enclosed-loop-cursor
decreases-enclosed-loop-cursor l = length l.cursor
