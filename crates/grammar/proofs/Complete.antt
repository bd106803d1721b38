-- Every tree of the grammar is read back, and what follows from it. Assumes nothing.
use Rattle.std.proofs.Common.{◌≡◌, List, [], sym, ◌∙◌, subst}
use Rattle.symbol.specs.Symbols.{PlacedSym}
use Rattle.cursor.specs.Reading.{Out, got, fault}
use Rattle.grammar.specs.Theorems.{ExpressionsComplete, TypesComplete, StatementsComplete, ProgramsComplete, Unambiguous, FaultsRefuse}
use Rattle.grammar.proofs.CompleteExpressions.{expr_complete}
use Rattle.grammar.proofs.CompleteTypes.{type_complete}
use Rattle.grammar.proofs.CompleteStatements.{stmt_complete}
use Rattle.grammar.proofs.CompleteModules.{program_complete}

pub expressions_complete_lem : ExpressionsComplete
expressions_complete_lem = expr_complete

pub types_complete_lem : TypesComplete
types_complete_lem = type_complete

pub statements_complete_lem : StatementsComplete
statements_complete_lem = stmt_complete

pub programs_complete_lem : ProgramsComplete
programs_complete_lem = program_complete

one : {T : Type 0} (a b : T) (l r : List PlacedSym) → got a l ≡ got b r → a ≡ b
one a b l r e = cc

abbrev Fails : {T : Type 0} → Out T → Type 0
Fails (got a rest) = ⊥
Fails (fault c rest) = Unit {0}

pub unambiguous : Unambiguous
unambiguous t u ss h k = one t u [] [] (sym (program_complete t ss h) ∙ program_complete u ss k)

pub faults_refuse_lem : FaultsRefuse
faults_refuse_lem ss c rest e t h = subst Fails (sym e ∙ program_complete t ss h) tt
