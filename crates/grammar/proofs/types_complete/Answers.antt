use Rattle.std.proofs.Common.{refl}
use Rattle.grammar.proofs.Complete.{types_complete_lem}
use Rattle.grammar.proofs.types_complete.Goals as goal

pub returns : goal.returns
returns c = (refl, types_complete_lem)
