-- The theorems: the readers read exactly the grammar.
use Rattle.std.specs.Prelude.{◌≡◌, ℕ, List, []}
use Rattle.fault.specs.declared.Cause.{Cause}
use Rattle.symbol.specs.Symbols.{PlacedSym}
use Rattle.cursor.specs.Reading.{got, fault, head}
use Rattle.expression_tree.specs.Trees.{Expr}
use Rattle.expression_parser.specs.Readers.{expression_of, factor}
use Rattle.type_tree.specs.Trees.{Typ}
use Rattle.type_parser.specs.Readers.{type_expr_of}
use Rattle.syntax.specs.StatementTrees.{Stmt}
use Rattle.syntax.specs.Statements.{statement}
use Rattle.syntax.specs.ProgramTrees.{Modul}
use Rattle.syntax.specs.Program.{deepest, program_of}
use Rattle.grammar.specs.Expressions.{ExprR}
use Rattle.grammar.specs.Types.{TypR}
use Rattle.grammar.specs.Statements.{StmtR}
use Rattle.grammar.specs.Modules.{Sentence}
use Rattle.grammar.specs.Stops.{StopE, StopA}

-- ---- sound: the tree that is read is a tree of the symbols that were read

abbrev pub ExpressionsSound : Type 0
ExpressionsSound = (d : ℕ) (ss : List PlacedSym) (t : Expr) (rest : List PlacedSym) → expression_of (factor d) ss ≡ got t rest → ExprR t d ss rest

abbrev pub TypesSound : Type 0
TypesSound = (d : ℕ) (ss : List PlacedSym) (t : Typ) (rest : List PlacedSym) → type_expr_of d ss ≡ got t rest → TypR t d ss rest

abbrev pub StatementsSound : Type 0
StatementsSound = (d : ℕ) (ss : List PlacedSym) (t : Stmt) (rest : List PlacedSym) → statement d ss ≡ got t rest → StmtR t d ss rest

-- a program that is read is one of the grammar, and nothing is left
abbrev pub ProgramsSound : Type 0
ProgramsSound = (ss : List PlacedSym) (t : Modul) (rest : List PlacedSym) → program_of ss ≡ got t rest → Sentence t deepest ss × (rest ≡ [])

-- ---- complete: a tree of the grammar is read back, where what follows does not go on with it

abbrev pub ExpressionsComplete : Type 0
ExpressionsComplete = (t : Expr) (d : ℕ) (ss rest : List PlacedSym) → ExprR t d ss rest → StopE (head rest).symbol → expression_of (factor d) ss ≡ got t rest

abbrev pub TypesComplete : Type 0
TypesComplete = (t : Typ) (d : ℕ) (ss rest : List PlacedSym) → TypR t d ss rest → type_expr_of d ss ≡ got t rest

abbrev pub StatementsComplete : Type 0
StatementsComplete = (t : Stmt) (d : ℕ) (ss rest : List PlacedSym) → StmtR t d ss rest → StopA (head rest).symbol → statement d ss ≡ got t rest

abbrev pub ProgramsComplete : Type 0
ProgramsComplete = (t : Modul) (ss : List PlacedSym) → Sentence t deepest ss → program_of ss ≡ got t []

-- ---- so the grammar has one tree at most for each list of symbols, and a fault says that there is none

abbrev pub Unambiguous : Type 0
Unambiguous = (t u : Modul) (ss : List PlacedSym) → Sentence t deepest ss → Sentence u deepest ss → t ≡ u

abbrev pub FaultsRefuse : Type 0
FaultsRefuse = (ss : List PlacedSym) (c : Cause) (rest : List PlacedSym) → program_of ss ≡ fault c rest → (t : Modul) → Sentence t deepest ss → ⊥
