-- Whatever is read stands in the grammar. Assumes nothing.
use Rattle.grammar.specs.Theorems.{ExpressionsSound, TypesSound, StatementsSound, ProgramsSound}
use Rattle.grammar.proofs.Holding.{held}
use Rattle.grammar.proofs.SoundExpressions.{expr_sound}
use Rattle.grammar.proofs.SoundTypes.{type_sound}
use Rattle.grammar.proofs.SoundStatements.{statement_sound}
use Rattle.grammar.proofs.SoundModules.{program_sound}

pub expressions_sound_lem : ExpressionsSound
expressions_sound_lem d ss t rest e = held (expr_sound d ss) e

pub types_sound_lem : TypesSound
types_sound_lem d ss t rest e = held (type_sound d ss) e

pub statements_sound_lem : StatementsSound
statements_sound_lem d ss t rest e = held (statement_sound d ss) e

pub programs_sound_lem : ProgramsSound
programs_sound_lem ss t rest e = held (program_sound ss) e
