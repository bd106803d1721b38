use Rattle.std.proofs.Common.{refl}
use Rattle.grammar.proofs.Complete.{programs_complete_lem}
use Rattle.grammar.proofs.programs_complete.Goals as goal

pub returns : goal.returns
returns c = (refl, programs_complete_lem)
