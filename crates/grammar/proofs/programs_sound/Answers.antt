use Rattle.std.proofs.Common.{refl}
use Rattle.grammar.proofs.Sound.{programs_sound_lem}
use Rattle.grammar.proofs.programs_sound.Goals as goal

pub returns : goal.returns
returns c = (refl, programs_sound_lem)
