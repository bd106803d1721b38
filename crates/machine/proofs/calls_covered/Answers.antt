use Rattle.std.proofs.Common.{refl}
use Rattle.machine.proofs.Opened.{calls_covered_lem}
use Rattle.machine.proofs.calls_covered.Goals as goal

pub returns : goal.returns
returns c = (refl, calls_covered_lem)
