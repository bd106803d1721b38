use Rattle.std.proofs.Common.{refl}
use Rattle.machine.proofs.Simulates.{simulates}
use Rattle.machine.proofs.machine_simulates.Goals as goal

pub returns : goal.returns
returns c = (refl, simulates)
