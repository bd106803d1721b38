use Rattle.store.proofs.Windows.{piles}
use Rattle.store.proofs.laws_hold.Goals as goal

pub returns-clause-piles : goal.returns-clause-piles
returns-clause-piles c = piles
