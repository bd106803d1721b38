use Rattle.std.proofs.Common.{refl}
use Rattle.grammar.proofs.Complete.{faults_refuse_lem}
use Rattle.grammar.proofs.faults_refuse.Goals as goal

pub returns : goal.returns
returns c = (refl, faults_refuse_lem)
