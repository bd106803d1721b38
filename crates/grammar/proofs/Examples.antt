-- The worked examples. Assumes nothing.
use Rattle.std.proofs.Common.{[], ◌∷◌, refl}
use Rattle.fault.specs.declared.Cause.TheVariants.{Syntax}
use Rattle.cursor.specs.Reading.{after, head, tail, expect, expect_end, ident_of, loop, many}
use Rattle.syntax.specs.Statements.{optional_of}
use Rattle.syntax.specs.Procedures.{body_of, closing_of}
use Rattle.syntax.specs.Modules.{names_of, module_word_of, heading_of, declarations_of, module_of, module_for}
use Rattle.syntax.specs.Program.{program_of}
use Rattle.grammar.specs.Examples.{closed_by, smallest, SmallestProgram, OtherClosingName}
use Rattle.grammar.proofs.Sound.{programs_sound_lem}
use Rattle.grammar.proofs.Complete.{faults_refuse_lem}

pub smallest_program_lem : SmallestProgram
unfolding program_of module_for module_of heading_of module_word_of names_of declarations_of body_of closing_of optional_of after head tail expect ident_of loop many expect_end
smallest_program_lem = (programs_sound_lem (closed_by (65 ∷ [])) smallest [] refl).0

pub other_closing_name_lem : OtherClosingName
unfolding program_of module_for module_of heading_of module_word_of names_of declarations_of body_of closing_of optional_of after head tail expect ident_of loop many
other_closing_name_lem = faults_refuse_lem _ Syntax _ refl
