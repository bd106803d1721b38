use Rattle.std.proofs.Common.{arith}
use Rattle.std.proofs.lemmas.Int.{to_z-of_z, ints}
use Rattle.integer.proofs.Truncation.{truncates_of}
use Rattle.integer.proofs.divide.Goals as goal

pub returns-clause-law : goal.returns-clause-law
returns-clause-law c = truncates_of c.args.x c.args.y c.bound.result (search (arith, ints, to_z-of_z, c.bound.ensures))
