use Rattle.std.proofs.Common.{refl}
use Rattle.lexing.proofs.Worked.{worked}
use Rattle.lexing.proofs.examples_hold.Goals as goal

pub returns : goal.returns
returns c = (refl, worked)
