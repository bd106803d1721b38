use Rattle.std.proofs.Common.{refl}
use Rattle.grammar.proofs.Sound.{expressions_sound_lem}
use Rattle.grammar.proofs.expressions_sound.Goals as goal

pub returns : goal.returns
returns c = (refl, expressions_sound_lem)
