use Rattle.std.proofs.Common.{refl}
use Rattle.grammar.proofs.Complete.{statements_complete_lem}
use Rattle.grammar.proofs.statements_complete.Goals as goal

pub returns : goal.returns
returns c = (refl, statements_complete_lem)
