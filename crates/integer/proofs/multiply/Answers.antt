use Rattle.std.proofs.Common.{◌*ℤ◌, arith, w64, SFits, rules}
use Rattle.std.proofs.lemmas.Int.{to_z-of_z, ints}
use Rattle.integer.proofs.multiply.Goals as goal

pub returns : goal.returns
returns c =
    let f : SFits w64 (c.from.result *ℤ c.from-2.result) = search rules in
    search (arith, ints, to_z-of_z, c.bound.ensures)
