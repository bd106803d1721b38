use Rattle.std.proofs.Common.{refl}
use Rattle.grammar.proofs.Examples.{other_closing_name_lem}
use Rattle.grammar.proofs.other_closing_name.Goals as goal

pub returns : goal.returns
returns c = (refl, other_closing_name_lem)
