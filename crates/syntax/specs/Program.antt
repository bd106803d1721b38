-- What is read of a whole text.
use Rattle.std.specs.Prelude.{ℕ, cond, List, [], ◌∷◌, length, Ok, Err, nat_le}
use Rattle.fault.specs.declared.Cause.{Cause}
use Rattle.fault.specs.declared.Cause.TheVariants.{TooLong}
use Rattle.fault.specs.declared.Fault.{Fault}
use Rattle.fault.specs.Numbers.{fault_at}
use Rattle.symbol.specs.Symbols.{PlacedSym}
use Rattle.symbol.specs.declared.mark.Mark.TheVariants.{Dot}
use Rattle.scanner.specs.Scan.{longest_text}
use Rattle.lexing.specs.Reading.{Stop, Reading, symbols_of}
use Rattle.cursor.specs.Reading.{Out, Reads, got, fault, after, mapped, expect_mark, expect_end}
use Rattle.syntax.specs.ProgramTrees.{Modul}
use Rattle.syntax.specs.Modules.{module_for}

-- so many constructs may be open at one place
abbrev pub deepest : ℕ
deepest = 32

-- program = module "."
unfoldable pub program_of : Reads Modul
program_of ss = after (module_for deepest ss) (λ m rest. after (expect_mark Dot rest) (λ _ left. mapped (λ _. m) (expect_end left)))

-- ---- the answer for a whole text

pub data Answer : Type 0 where
  accepted : Modul → Answer
  refused : Fault → Answer

-- where the symbols are used up, what stopped their reading is the fault, if it was one
abbrev pub stop_fault : Stop → Cause → Fault
stop_fault (Ok k) c = fault_at c k
stop_fault (Err f) c = f

abbrev pub fault_in : Stop → Cause → List PlacedSym → Fault
fault_in s c [] = stop_fault s c
fault_in s c (x ∷ xs) = fault_at c x.place

-- a program is accepted only where its text ends
abbrev pub whole : Stop → Modul → Answer
whole (Ok k) m = accepted m
whole (Err f) m = refused f

abbrev pub answer : Stop → Out Modul → Answer
answer s (got m rest) = whole s m
answer s (fault c rest) = refused (fault_in s c rest)

abbrev pub judged : Reading → Answer
judged r = answer r.stop (program_of r.list)

-- what is read of a text
unfoldable pub answer_of : List ℕ → Answer
answer_of text = cond (nat_le (length text) longest_text) (judged (symbols_of text)) (refused (fault_at TooLong longest_text))
