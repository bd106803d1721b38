-- What is proved of the definitions of this crate.
use Rattle.std.specs.Prelude.{true, ◌≡◌}
use Rattle.program.specs.Trees.{Program}
use Rattle.program.specs.WellFormed.{WellFormed}
use Rattle.program.specs.Decided.{well_formed}

-- The Bool function answers true exactly for the well-formed programs.
abbrev pub Decided : Type 0
Decided = (P : Program) → (well_formed P ≡ true → WellFormed P) × (WellFormed P → well_formed P ≡ true)
