use Rattle.std.proofs.Common.{refl}
use Rattle.machine.proofs.Height.{stays_low_lem}
use Rattle.machine.proofs.stays_low.Goals as goal

pub returns : goal.returns
returns c = (refl, stays_low_lem)
