use mathlib.Core.Path.{refl}
use Rattle.worked.proofs.Flow.{worked}
use Rattle.worked.proofs.flow_compute.Goals as goal

pub returns : goal.returns
returns c = (refl, worked)
