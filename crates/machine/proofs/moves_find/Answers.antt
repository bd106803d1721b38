use Rattle.std.proofs.Common.{refl}
use Rattle.machine.proofs.Moves.{moves_find_lem}
use Rattle.machine.proofs.moves_find.Goals as goal

pub returns : goal.returns
returns c = (refl, moves_find_lem)
