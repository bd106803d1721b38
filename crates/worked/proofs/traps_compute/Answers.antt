use mathlib.Core.Path.{refl}
use Rattle.worked.proofs.Traps.{worked}
use Rattle.worked.proofs.traps_compute.Goals as goal

pub returns : goal.returns
returns c = (refl, worked)
