use mathlib.Core.Path.{refl}
use Rattle.program.proofs.Decides.{decided}
use Rattle.program.proofs.well_formed_decided.Goals as goal

pub returns : goal.returns
returns c = (refl, decided)
