use Rattle.std.proofs.Common.{refl}
use Rattle.meaning.proofs.Examples.{worked}
use Rattle.meaning.proofs.examples_compute.Goals as goal

pub returns : goal.returns
returns c = (refl, worked)
