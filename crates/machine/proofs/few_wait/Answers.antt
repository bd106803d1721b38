use Rattle.std.proofs.Common.{refl}
use Rattle.machine.proofs.Waiting.{few_wait_lem}
use Rattle.machine.proofs.few_wait.Goals as goal

pub returns : goal.returns
returns c = (refl, few_wait_lem)
