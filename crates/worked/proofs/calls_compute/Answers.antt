use mathlib.Core.Path.{refl}
use Rattle.worked.proofs.Calls.{worked}
use Rattle.worked.proofs.calls_compute.Goals as goal

pub returns : goal.returns
returns c = (refl, worked)
