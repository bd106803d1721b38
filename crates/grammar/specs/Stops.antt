-- Which symbols may follow a phrase: those that do not go on with it.
use Rattle.std.specs.Prelude.{◌≡◌, false, None}
use Rattle.symbol.specs.Symbols.{Sym}
use Rattle.symbol.specs.declared.mark.Mark.TheVariants as m
use Rattle.cursor.specs.Kinds.{sym_is_mark}
use Rattle.expression_parser.specs.Classes.{selecting, multiplying, adding, relation}
use Rattle.syntax.specs.Statements.{following, nothing, kind, of_nothing}

-- behind a factor: no selector, no actuals
abbrev pub StopF : Sym → Type 0
StopF s = (selecting s ≡ None) × (sym_is_mark m.LeftParen s ≡ false)

-- behind a term: no multiplying operator either
abbrev pub StopT : Sym → Type 0
StopT s = StopF s × (multiplying s ≡ None)

-- behind a simple expression: no adding operator either
abbrev pub StopS : Sym → Type 0
StopS s = StopT s × (adding s ≡ None)

-- behind an expression: no relation either
abbrev pub StopE : Sym → Type 0
StopE s = StopS s × (relation s ≡ None)

-- behind a statement: no expression goes on, nothing that follows a name, and no other statement begins
abbrev pub StopA : Sym → Type 0
StopA s = StopE s × (following s ≡ nothing) × (kind s ≡ of_nothing)

-- behind a block: no semicolon either
abbrev pub StopB : Sym → Type 0
StopB s = StopA s × (sym_is_mark m.Semicolon s ≡ false)
