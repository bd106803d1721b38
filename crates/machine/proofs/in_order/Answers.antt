use Rattle.std.proofs.Common.{refl}
use Rattle.machine.proofs.Order.{in_order}
use Rattle.machine.proofs.in_order.Goals as goal

pub returns : goal.returns
returns c = (refl, in_order)
