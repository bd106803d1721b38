use Rattle.std.proofs.Common.{refl}
use Rattle.grammar.proofs.Complete.{unambiguous}
use Rattle.grammar.proofs.unambiguous.Goals as goal

pub returns : goal.returns
returns c = (refl, unambiguous)
