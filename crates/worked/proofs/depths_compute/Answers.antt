use mathlib.Core.Path.{refl}
use Rattle.worked.proofs.Depths.{worked}
use Rattle.worked.proofs.depths_compute.Goals as goal

pub returns : goal.returns
returns c = (refl, worked)
