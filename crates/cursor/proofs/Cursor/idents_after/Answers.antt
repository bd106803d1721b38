use Rattle.std.proofs.Common.{sym, ◌∙◌, rules}
use Rattle.symbol.specs.declared.mark.Mark.TheVariants.{Comma}
use Rattle.cursor.specs.Reading.{ident_of}
use Rattle.cursor.specs.Promises.{lex_of}
use Rattle.cursor.proofs.Loops.{ident_within, further_turn, further_pushed, further_all, begins_pushed}
use Rattle.cursor.proofs.Steps.{broke, follow, followed}
use Rattle.cursor.proofs.Cursor.idents_after.Goals as goal

pub returns-in_err-ident : goal.returns-in_err-ident
returns-in_err-ident c =
    broke _ c.from_residual-in_err-ident.ensures.1 c.in_err-ident.ensures
    (begins_pushed lex_of _ _ _ _ c.new-names.ensures.items c.in_ok-push.ensures.items
    ∙ sym c.loop-self.invariant
    ∙ further_turn Comma ident_of ident_within _ _ _ (sym c.loop-self-test.ensures) c.advance.ensures)

pub loop-self-preserved : goal.loop-self-preserved
loop-self-preserved c =
    further_pushed Comma ident_of ident_within lex_of _ _ c.in_ok-ident.field-0 _ _ _ (sym c.loop-self-test.ensures) c.advance.ensures (followed c.in_ok-ident.ensures)
    (search rules) c.loop-self.invariant

pub returns : goal.returns
returns c =
    follow
    (begins_pushed lex_of _ _ _ _ c.new-names.ensures.items c.in_ok-push.ensures.items
    ∙ further_all Comma ident_of ident_within _ _ (sym c.loop-self-test.ensures) c.loop-self.invariant)
