use Rattle.std.proofs.Common.{refl}
use Rattle.machine.proofs.Present.{all_present_lem}
use Rattle.machine.proofs.all_present.Goals as goal

pub returns : goal.returns
returns c = (refl, all_present_lem)
