use Rattle.std.proofs.Common.{◌≡◌, None, refl, sym, ap, ◌∙◌, rules}
use Rattle.fault.specs.declared.Cause.TheVariants.{Syntax}
use Rattle.symbol.specs.Symbols.{sym_of}
use Rattle.symbol.specs.declared.mark.Mark.TheVariants.{Comma}
use Rattle.cursor.proofs.Loops.{from_none, within_list, further_turn, further_less, further_pushed, further_all}
use Rattle.cursor.proofs.Steps.{at_first, followed, follow, goes, onward, broke, made, refused, too_deep, list_is, list_pushed}
use Rattle.expression_tree.specs.Trees.{addend_of, multiplier_of, sel_of, expr_of}
use Rattle.expression_tree.proofs.Nodes.{simple_says, addend_says, term_says, variable_says, call_says, index_says}
use Rattle.expression_parser.specs.Classes.{relation, adding, multiplying, start, an_opening, a_not, other}
use Rattle.expression_parser.proofs.Within.{expression_within, factor_within}
use Rattle.expression_parser.proofs.Moves.{expression_is, expression_plain, expression_related, simple_is, simple_begins, term_is, term_begins, addends_whole, addend_turn, addend_less, addend_again, multipliers_whole, multiplier_turn, multiplier_less, multiplier_again, factor_number, factor_character, factor_name, factor_paren, factor_not, paren_deep, not_deep, factor_other, named_call, named_variable, selectors_whole, field_turn, field_again, field_less, index_turn, index_again, index_less, enclosed_deep, enclosed_is}
use Rattle.expression_parser.proofs.+expressions.Goals as goal

-- ---- expression

pub expression-returns-in_err-left : goal.expression-returns-in_err-left
expression-returns-in_err-left t c =
    broke _ c.from_residual.ensures.1 c.in_err-left.ensures (expression_is _ _)

pub expression-returns-in_err-right-in-Some : goal.expression-returns-in_err-right-in-Some
expression-returns-in_err-right-in-Some t c =
    broke _ c.from_residual-in_err-right-in-Some.ensures.1 c.in_err-right-in-Some.ensures
    (expression_related _ _ _ _ _ _ (followed c.in_ok-left.ensures) (at_first relation _ _ c.first.ensures (sym c.in-Some.ensures)) c.advance.ensures)

pub expression-returns-in_ok-of_plain-in-None : goal.expression-returns-in_ok-of_plain-in-None
expression-returns-in_ok-of_plain-in-None t c =
    made (expression_plain _ _ _ _ (followed c.in_ok-left.ensures) (at_first relation _ _ c.first.ensures (sym c.in-None.ensures))) c.in_ok-of_plain-in-None.ensures

pub expression-returns-in_ok-of_related-in-Some : goal.expression-returns-in_ok-of_related-in-Some
expression-returns-in_ok-of_related-in-Some t c =
    made (onward _ (expression_related _ _ _ _ _ _ (followed c.in_ok-left.ensures) (at_first relation _ _ c.first.ensures (sym c.in-Some.ensures)) c.advance.ensures) (followed c.in_ok-right-in-Some.ensures))
    c.in_ok-of_related-in-Some.ensures

-- ---- simple

pub simple-returns-in_err-first : goal.simple-returns-in_err-first
simple-returns-in_err-first t c =
    broke _ c.from_residual.ensures.1 c.in_err-first.ensures (simple_is _ _ _ _ _ c.read_sign-sign.ensures c.first-place.ensures)

pub simple-returns-in_err-addends : goal.simple-returns-in_err-addends
simple-returns-in_err-addends t c =
    broke _ c.from_residual-in_err-addends.ensures.1 c.in_err-addends.ensures
    (simple_begins _ _ _ _ _ _ _ c.read_sign-sign.ensures c.first-place.ensures (followed c.in_ok-first.ensures))

pub simple-returns : goal.simple-returns
simple-returns t c =
    made
    (onward _
    (simple_begins _ _ _ _ _ _ _ c.read_sign-sign.ensures c.first-place.ensures (followed c.in_ok-first.ensures))
    (followed c.in_ok-addends.ensures))
    (simple_says _)

pub addends-returns-in_err-term : goal.addends-returns-in_err-term
addends-returns-in_err-term t c =
    broke _ c.from_residual.ensures.1 c.in_err-term.ensures
    (from_none addend_of _ _ c.new-addends.ensures.items
    ∙ sym c.loop-adding.invariant
    ∙ addend_turn c.args.allowance _ _ _ _ (at_first adding _ _ c.first.ensures (sym c.in-Some.ensures)) c.advance.ensures)

pub addends-loop-adding-smaller : goal.addends-loop-adding-smaller
addends-loop-adding-smaller t c =
    addend_less c.args.allowance _ _ _ _ _ (at_first adding _ _ c.first.ensures (sym c.in-Some.ensures)) c.advance.ensures (followed c.in_ok-term.ensures)

pub addends-loop-adding-preserved : goal.addends-loop-adding-preserved
addends-loop-adding-preserved t c =
    addend_again c.args.allowance _ _ _ _ _ _ _ _ (at_first adding _ _ c.first.ensures (sym c.in-Some.ensures)) c.advance.ensures (followed c.in_ok-term.ensures)
    (addend_says _) c.in_ok-append.ensures c.loop-adding.invariant

pub addends-returns : goal.addends-returns
addends-returns t c =
    let n : adding (sym_of c.first.result.symbol) ≡ None = search rules in
    follow (addends_whole c.args.allowance _ _ _ _ c.new-addends.ensures.items (at_first adding _ _ c.first.ensures n) c.loop-adding.invariant)

-- ---- term

pub term-returns-in_err-first : goal.term-returns-in_err-first
term-returns-in_err-first t c =
    broke _ c.from_residual.ensures.1 c.in_err-first.ensures (term_is _ _)

pub term-returns-in_err-multipliers : goal.term-returns-in_err-multipliers
term-returns-in_err-multipliers t c =
    broke _ c.from_residual-in_err-multipliers.ensures.1 c.in_err-multipliers.ensures (term_begins _ _ _ _ (followed c.in_ok-first.ensures))

pub term-returns : goal.term-returns
term-returns t c =
    made (onward _ (term_begins _ _ _ _ (followed c.in_ok-first.ensures)) (followed c.in_ok-multipliers.ensures)) (term_says _)

pub multipliers-returns-in_err-factor : goal.multipliers-returns-in_err-factor
multipliers-returns-in_err-factor t c =
    broke _ c.from_residual.ensures.1 c.in_err-factor.ensures
    (from_none multiplier_of _ _ c.new-multipliers.ensures.items
    ∙ sym c.loop-multiplying.invariant
    ∙ multiplier_turn c.args.allowance _ _ _ _ (at_first multiplying _ _ c.first.ensures (sym c.in-Some.ensures)) c.advance.ensures)

pub multipliers-loop-multiplying-smaller : goal.multipliers-loop-multiplying-smaller
multipliers-loop-multiplying-smaller t c =
    multiplier_less c.args.allowance _ _ _ _ _ (at_first multiplying _ _ c.first.ensures (sym c.in-Some.ensures)) c.advance.ensures (followed c.in_ok-factor.ensures)

pub multipliers-loop-multiplying-preserved : goal.multipliers-loop-multiplying-preserved
multipliers-loop-multiplying-preserved t c =
    multiplier_again c.args.allowance _ _ _ _ _ _ _ _ (at_first multiplying _ _ c.first.ensures (sym c.in-Some.ensures)) c.advance.ensures (followed c.in_ok-factor.ensures)
    refl c.in_ok-append.ensures c.loop-multiplying.invariant

pub multipliers-returns : goal.multipliers-returns
multipliers-returns t c =
    let n : multiplying (sym_of c.first.result.symbol) ≡ None = search rules in
    follow (multipliers_whole c.args.allowance _ _ _ _ c.new-multipliers.ensures.items (at_first multiplying _ _ c.first.ensures n) c.loop-multiplying.invariant)

-- ---- factor

pub factor-returns-in-Number : goal.factor-returns-in-Number
factor-returns-in-Number t c =
    follow (factor_number _ _ _ _ _ (at_first start _ _ c.first-first.ensures (ap (λ s. start (sym_of s)) c.in-Number.is)) c.take.ensures.0 c.take.ensures.1)

pub factor-returns-in-Character : goal.factor-returns-in-Character
factor-returns-in-Character t c =
    follow (factor_character _ _ _ _ _ (at_first start _ _ c.first-first.ensures (ap (λ s. start (sym_of s)) c.in-Character.is)) c.take-in-Character.ensures.0 c.take-in-Character.ensures.1)

pub factor-returns-in-Name : goal.factor-returns-in-Name
factor-returns-in-Name t c =
    goes c.named.ensures (factor_name _ _ _ _ _ (at_first start _ _ c.first-first.ensures (ap (λ s. start (sym_of s)) c.in-Name.is)) c.take-name.ensures.0 c.take-name.ensures.1)

pub factor-returns-in_err-deeper-in-Mark-LeftParen : goal.factor-returns-in_err-deeper-in-Mark-LeftParen
factor-returns-in_err-deeper-in-Mark-LeftParen t c =
    let k : start (sym_of c.first-first.result.symbol) ≡ an_opening = search rules in
    too_deep _ _ _ _ c.from_residual.ensures.1 c.in_err-deeper-in-Mark-LeftParen.ensures (paren_deep _ _ (at_first start _ _ c.first-first.ensures k))

pub factor-returns-in_err-inner-in-Mark-LeftParen : goal.factor-returns-in_err-inner-in-Mark-LeftParen
factor-returns-in_err-inner-in-Mark-LeftParen t c =
    let k : start (sym_of c.first-first.result.symbol) ≡ an_opening = search rules in
    broke _ c.from_residual-in_err-inner-in-Mark-LeftParen.ensures.1 c.in_err-inner-in-Mark-LeftParen.ensures (factor_paren _ _ _ _ _ c.first-first.ensures k c.in_ok-deeper-in-Mark-LeftParen.ensures)

pub factor-returns-in_err-pass-in-Mark-LeftParen : goal.factor-returns-in_err-pass-in-Mark-LeftParen
factor-returns-in_err-pass-in-Mark-LeftParen t c =
    let k : start (sym_of c.first-first.result.symbol) ≡ an_opening = search rules in
    broke _ c.from_residual-in_err-pass-in-Mark-LeftParen.ensures.1 c.in_err-pass-in-Mark-LeftParen.ensures (onward _ (factor_paren _ _ _ _ _ c.first-first.ensures k c.in_ok-deeper-in-Mark-LeftParen.ensures) (followed c.in_ok-inner-in-Mark-LeftParen.ensures))

pub factor-returns-in_ok-of_paren-in-Mark-LeftParen : goal.factor-returns-in_ok-of_paren-in-Mark-LeftParen
factor-returns-in_ok-of_paren-in-Mark-LeftParen t c =
    let k : start (sym_of c.first-first.result.symbol) ≡ an_opening = search rules in
    made (onward _ (onward _ (factor_paren _ _ _ _ _ c.first-first.ensures k c.in_ok-deeper-in-Mark-LeftParen.ensures) (followed c.in_ok-inner-in-Mark-LeftParen.ensures)) (followed c.in_ok-pass-in-Mark-LeftParen.ensures)) c.in_ok-of_paren-in-Mark-LeftParen.ensures

pub factor-returns-in_err-deeper-in-Word-Not : goal.factor-returns-in_err-deeper-in-Word-Not
factor-returns-in_err-deeper-in-Word-Not t c =
    let k : start (sym_of c.first-first.result.symbol) ≡ a_not = search rules in
    too_deep _ _ _ _ c.from_residual-in_err-deeper-in-Word-Not.ensures.1 c.in_err-deeper-in-Word-Not.ensures (not_deep _ _ (at_first start _ _ c.first-first.ensures k))

pub factor-returns-in_err-inner-in-Word-Not : goal.factor-returns-in_err-inner-in-Word-Not
factor-returns-in_err-inner-in-Word-Not t c =
    let k : start (sym_of c.first-first.result.symbol) ≡ a_not = search rules in
    broke _ c.from_residual-in_err-inner-in-Word-Not.ensures.1 c.in_err-inner-in-Word-Not.ensures (factor_not _ _ _ _ _ c.first-first.ensures k c.in_ok-deeper-in-Word-Not.ensures)

pub factor-returns-in_ok-of_not-in-Word-Not : goal.factor-returns-in_ok-of_not-in-Word-Not
factor-returns-in_ok-of_not-in-Word-Not t c =
    let k : start (sym_of c.first-first.result.symbol) ≡ a_not = search rules in
    made (onward _ (factor_not _ _ _ _ _ c.first-first.ensures k c.in_ok-deeper-in-Word-Not.ensures) (followed c.in_ok-inner-in-Word-Not.ensures)) c.in_ok-of_not-in-Word-Not.ensures

pub factor-returns-in_default : goal.factor-returns-in_default
factor-returns-in_default t c =
    let o : start (sym_of c.first-first.result.symbol) ≡ other = search rules in
    refused _ Syntax _ c.halt.ensures (factor_other _ _ (at_first start _ _ c.first-first.ensures o))

-- ---- named

pub named-returns-in_err-actuals : goal.named-returns-in_err-actuals
named-returns-in_err-actuals t c =
    broke _ c.from_residual.ensures.1 c.in_err-actuals.ensures (named_call _ _ _ (sym c.if-at.ensures))

pub named-returns-then-at : goal.named-returns-then-at
named-returns-then-at t c =
    made (onward _ (named_call _ _ _ (sym c.if-at.ensures)) (followed c.in_ok-actuals.ensures)) (call_says c.args.name c.in_ok-actuals.actuals)

pub named-returns-in_err-selectors : goal.named-returns-in_err-selectors
named-returns-in_err-selectors t c =
    broke _ c.from_residual-in_err-selectors.ensures.1 c.in_err-selectors.ensures (named_variable _ _ _ (sym c.if-at.ensures))

pub named-returns : goal.named-returns
named-returns t c =
    made (onward _ (named_variable _ _ _ (sym c.if-at.ensures)) (followed c.in_ok-selectors.ensures)) (variable_says c.args.name c.in_ok-selectors.selectors)

-- ---- selectors

pub selectors-returns-in_err-field : goal.selectors-returns-in_err-field
selectors-returns-in_err-field t c =
    broke _ c.from_residual.ensures.1 c.in_err-field.ensures (from_none sel_of _ _ c.new-selectors.ensures.items ∙ sym c.loop-cursor.invariant ∙ field_turn c.args.allowance _ _ _ (sym c.if-at.ensures) c.advance.ensures)

pub selectors-loop-cursor-smaller-in-Continue-branch-2 : goal.selectors-loop-cursor-smaller-in-Continue-branch-2
selectors-loop-cursor-smaller-in-Continue-branch-2 t c =
    field_less c.args.allowance _ _ _ _ (sym c.if-at.ensures) c.advance.ensures (followed c.in_ok-field.ensures)

pub selectors-loop-cursor-preserved-in-Continue-branch-2 : goal.selectors-loop-cursor-preserved-in-Continue-branch-2
selectors-loop-cursor-preserved-in-Continue-branch-2 t c =
    field_again c.args.allowance _ _ _ _ _ _ _ (sym c.if-at.ensures) c.advance.ensures (followed c.in_ok-field.ensures)
    refl c.in_ok-push.ensures.items c.loop-cursor.invariant

pub selectors-returns-in_err-indices : goal.selectors-returns-in_err-indices
selectors-returns-in_err-indices t c =
    broke _ c.from_residual-in_err-indices.ensures.1 c.in_err-indices.ensures (from_none sel_of _ _ c.new-selectors.ensures.items ∙ sym c.loop-cursor.invariant ∙ index_turn c.args.allowance _ _ (sym c.if-at.ensures) (sym c.if-at-2.ensures))

pub selectors-loop-cursor-smaller : goal.selectors-loop-cursor-smaller
selectors-loop-cursor-smaller t c =
    index_less c.args.allowance _ _ _ (sym c.if-at.ensures) (sym c.if-at-2.ensures) (followed c.in_ok-indices.ensures)

pub selectors-loop-cursor-preserved : goal.selectors-loop-cursor-preserved
selectors-loop-cursor-preserved t c =
    index_again c.args.allowance _ _ _ _ _ _ (sym c.if-at.ensures) (sym c.if-at-2.ensures) (followed c.in_ok-indices.ensures)
    (index_says _) c.in_ok-push-2.ensures.items c.loop-cursor.invariant

pub selectors-returns-else-at-2 : goal.selectors-returns-else-at-2
selectors-returns-else-at-2 t c =
    follow (selectors_whole c.args.allowance _ _ _ _ c.new-selectors.ensures.items (sym c.if-at.ensures) (sym c.if-at-2.ensures) c.loop-cursor.invariant)

-- ---- enclosed

pub enclosed-returns-in_err-deeper : goal.enclosed-returns-in_err-deeper
enclosed-returns-in_err-deeper t c =
    too_deep _ _ _ _ c.from_residual.ensures.1 c.in_err-deeper.ensures (enclosed_deep _ _ _)

pub enclosed-returns-in_err-first : goal.enclosed-returns-in_err-first
enclosed-returns-in_err-first t c =
    broke _ c.from_residual-in_err-first.ensures.1 c.in_err-first.ensures
    (enclosed_is _ _ _ _ _ c.in_ok-deeper.ensures ∙ within_list _ _ _ _ _ _ _ (list_is Comma _ _))

pub enclosed-returns-in_err-next : goal.enclosed-returns-in_err-next
enclosed-returns-in_err-next t c =
    broke _ c.from_residual-in_err-next.ensures.1 c.in_err-next.ensures
    (enclosed_is _ _ _ _ _ c.in_ok-deeper.ensures
    ∙ within_list _ _ _ _ _ _ _
    (list_pushed Comma _ expr_of _ _ _ _ _ (followed c.in_ok-first.ensures) c.new-list.ensures.items c.in_ok-push.ensures.items
    ∙ sym c.loop-cursor.invariant
    ∙ further_turn Comma _ (expression_within _ (factor_within _)) _ _ _ (sym c.loop-cursor-test.ensures) c.advance.ensures))

pub enclosed-loop-cursor-smaller : goal.enclosed-loop-cursor-smaller
enclosed-loop-cursor-smaller t c =
    further_less Comma _ (expression_within _ (factor_within _)) _ _ _ _ (sym c.loop-cursor-test.ensures) c.advance.ensures (followed c.in_ok-next.ensures)

pub enclosed-loop-cursor-preserved : goal.enclosed-loop-cursor-preserved
enclosed-loop-cursor-preserved t c =
    further_pushed Comma _ (expression_within _ (factor_within _)) expr_of _ _ _ _ _ _ (sym c.loop-cursor-test.ensures) c.advance.ensures (followed c.in_ok-next.ensures)
    c.in_ok-push-2.ensures.items c.loop-cursor.invariant

pub enclosed-returns-in_err-pass : goal.enclosed-returns-in_err-pass
enclosed-returns-in_err-pass t c =
    broke _ c.from_residual-in_err-pass.ensures.1 c.in_err-pass.ensures
    (onward _ (enclosed_is _ _ _ _ _ c.in_ok-deeper.ensures)
    (list_pushed Comma _ expr_of _ _ _ _ _ (followed c.in_ok-first.ensures) c.new-list.ensures.items c.in_ok-push.ensures.items
    ∙ further_all Comma _ (expression_within _ (factor_within _)) _ _ (sym c.loop-cursor-test.ensures) c.loop-cursor.invariant))

pub enclosed-returns : goal.enclosed-returns
enclosed-returns t c =
    follow
    (onward _
    (onward _ (enclosed_is _ _ _ _ _ c.in_ok-deeper.ensures)
    (list_pushed Comma _ expr_of _ _ _ _ _ (followed c.in_ok-first.ensures) c.new-list.ensures.items c.in_ok-push.ensures.items
    ∙ further_all Comma _ (expression_within _ (factor_within _)) _ _ (sym c.loop-cursor-test.ensures) c.loop-cursor.invariant))
    (followed c.in_ok-pass.ensures))
