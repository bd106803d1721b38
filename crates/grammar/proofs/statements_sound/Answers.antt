use Rattle.std.proofs.Common.{refl}
use Rattle.grammar.proofs.Sound.{statements_sound_lem}
use Rattle.grammar.proofs.statements_sound.Goals as goal

pub returns : goal.returns
returns c = (refl, statements_sound_lem)
