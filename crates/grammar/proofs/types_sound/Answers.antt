use Rattle.std.proofs.Common.{refl}
use Rattle.grammar.proofs.Sound.{types_sound_lem}
use Rattle.grammar.proofs.types_sound.Goals as goal

pub returns : goal.returns
returns c = (refl, types_sound_lem)
