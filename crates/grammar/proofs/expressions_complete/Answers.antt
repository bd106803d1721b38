use Rattle.std.proofs.Common.{refl}
use Rattle.grammar.proofs.Complete.{expressions_complete_lem}
use Rattle.grammar.proofs.expressions_complete.Goals as goal

pub returns : goal.returns
returns c = (refl, expressions_complete_lem)
