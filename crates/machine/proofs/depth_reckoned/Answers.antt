use Rattle.std.proofs.Common.{refl}
use Rattle.machine.proofs.Depth.{depth_reckoned_lem}
use Rattle.machine.proofs.depth_reckoned.Goals as goal

pub returns : goal.returns
returns c = (refl, depth_reckoned_lem)
