use Rattle.std.proofs.Common.{refl}
use Rattle.meaning.proofs.Hiding.{modules_hide_lem}
use Rattle.meaning.proofs.modules_hide.Goals as goal

pub returns : goal.returns
returns c = (refl, modules_hide_lem)
