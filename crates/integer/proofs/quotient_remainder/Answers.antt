use Rattle.std.proofs.Common.{rules}
use Rattle.std.proofs.lemmas.Int.{to_z-of_z}
use Rattle.integer.proofs.Division.{floored_is, floors_of, only_of}
use Rattle.integer.proofs.quotient_remainder.Goals as goal

pub returns-clause-law : goal.returns-clause-law
returns-clause-law c = floors_of c.args.x c.args.y _ _ (search (rules, to_z-of_z, floored_is))

pub returns-clause-only : goal.returns-clause-only
returns-clause-only c = only_of c.args.x c.args.y _ _ (search (rules, to_z-of_z, floored_is))
