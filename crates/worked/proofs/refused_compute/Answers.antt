use mathlib.Core.Path.{refl}
use Rattle.worked.proofs.Refused.{worked}
use Rattle.worked.proofs.refused_compute.Goals as goal

pub returns : goal.returns
returns c = (refl, worked)
