use Rattle.symbol.specs.declared.mark.Mark.TheVariants.{Comma}
use Rattle.cursor.specs.Reading.{ident_of, idents_of}
use Rattle.cursor.proofs.Steps.{broke, goes, followed, onward, list_is}
use Rattle.cursor.proofs.Cursor.idents.Goals as goal

pub returns-in_err-first : goal.returns-in_err-first
unfolding idents_of
returns-in_err-first c = broke _ c.from_residual.ensures.1 c.in_err-first.ensures (list_is Comma ident_of _)

pub returns : goal.returns
unfolding idents_of
returns c = goes c.idents_after.ensures (onward _ (list_is Comma ident_of _) (followed c.in_ok-first.ensures))
