use Rattle.cursor.proofs.Steps.{followed, follow, onward, broke, too_deep}
use Rattle.type_parser.proofs.Moves.{enumeration_deep, enumeration_is}
use Rattle.type_parser.proofs.enumeration.Goals as goal

pub returns-in_err-deeper : goal.returns-in_err-deeper
returns-in_err-deeper c = too_deep _ _ _ _ c.from_residual.ensures.1 c.in_err-deeper.ensures (enumeration_deep _ _)

pub returns-in_err-names : goal.returns-in_err-names
returns-in_err-names c = broke _ c.from_residual-in_err-names.ensures.1 c.in_err-names.ensures (enumeration_is _ _ _ _ _ c.first-place.ensures c.in_ok-deeper.ensures)

pub returns-in_err-pass : goal.returns-in_err-pass
returns-in_err-pass c = broke _ c.from_residual-in_err-pass.ensures.1 c.in_err-pass.ensures (onward _ (enumeration_is _ _ _ _ _ c.first-place.ensures c.in_ok-deeper.ensures) (followed c.in_ok-names.ensures))

pub returns : goal.returns
returns c = follow (onward _ (onward _ (enumeration_is _ _ _ _ _ c.first-place.ensures c.in_ok-deeper.ensures) (followed c.in_ok-names.ensures)) (followed c.in_ok-pass.ensures))
