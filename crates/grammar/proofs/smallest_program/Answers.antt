use Rattle.std.proofs.Common.{refl}
use Rattle.grammar.proofs.Examples.{smallest_program_lem}
use Rattle.grammar.proofs.smallest_program.Goals as goal

pub returns : goal.returns
returns c = (refl, smallest_program_lem)
