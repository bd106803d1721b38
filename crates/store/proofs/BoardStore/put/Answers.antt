use Rattle.std.proofs.Common.{of_z, w32}
use Rattle.store.proofs.Boards.{set_narrow}
use Rattle.store.proofs.BoardStore.put.Goals as goal

pub invariant_of-self-clause-narrow : goal.invariant_of-self-clause-narrow
invariant_of-self-clause-narrow c = set_narrow c.args.self.now.numbers c.args.n (of_z w32 c.args.v) c.args.self.now.narrow
