use Rattle.std.proofs.Common.{refl}
use Rattle.meaning.proofs.Typing.{types_kept_lem}
use Rattle.meaning.proofs.types_kept.Goals as goal

pub returns : goal.returns
returns c = (refl, types_kept_lem)
