-- The readers of procedures, one for each rule of the grammar. `d` constructs may be open inside.
use Rattle.std.specs.Prelude.{ℕ, Bool, false, cond, List, [], Some, None, Option}
use Rattle.fault.specs.declared.Cause.TheVariants.{Syntax}
use Rattle.symbol.specs.Symbols.{Sym, PlacedSym, name, number, character, word, mark, ending}
use Rattle.symbol.specs.Words.{same_name}
use Rattle.symbol.specs.declared.mark.Mark.TheVariants.{LeftParen, RightParen, Colon, Semicolon}
use Rattle.symbol.specs.declared.word.Word.TheVariants as w
use Rattle.cursor.specs.Kinds.{sym_is_mark, sym_is_word}
use Rattle.cursor.specs.Reading.{Reads, got, fault, after, mapped, head, tail, expect_mark, expect_word, Lex, ident_of, idents_of, inner, nested, list_of}
use Rattle.syntax.specs.StatementTrees.{Stmt, stmts}
use Rattle.syntax.specs.Statements.{statement, optional_of}
use Rattle.syntax.specs.ProgramTrees.{Section, formals, Proc, procedure}
use Rattle.syntax.specs.declared.Marking.{Marking}
use Rattle.syntax.specs.declared.Marking.TheVariants as m
use Rattle.syntax.specs.Declarations.{parts_of}

abbrev pub marking : Sym → Option Marking
marking s = cond (sym_is_word w.Const s) (Some m.Const) (cond (sym_is_word w.Var s) (Some m.Var) None)

-- what is left behind the word
abbrev pub unmarked : Option Marking → List PlacedSym → List PlacedSym
unmarked None ss = ss
unmarked (Some k) ss = tail ss

abbrev pub section_from : Option Marking → ℕ → Reads Section
section_from k p ss = after (idents_of ss) (λ ns r1. after (expect_mark Colon r1) (λ _ r2. mapped (formals p k ns) (ident_of r2)))

-- formals = ["const" | "var"] idents ":" ident
unfoldable pub formals_section_of : Reads Section
formals_section_of ss = section_from (marking (head ss).symbol) (head ss).place (unmarked (marking (head ss).symbol) ss)

-- ["(" formals {";" formals} ")"]
unfoldable pub formals_of : ℕ → Reads (List Section)
formals_of d ss =
    cond (sym_is_mark LeftParen (head ss).symbol)
    (nested (inner (λ e. e) d) ss (λ _ rest. after (list_of Semicolon formals_section_of rest) (λ xs left. mapped (λ _. xs) (expect_mark RightParen left))))
    (got [] ss)

-- [":" ident]
unfoldable pub result_of : Reads (Option Lex)
result_of ss = cond (sym_is_mark Colon (head ss).symbol) (mapped Some (ident_of (tail ss))) (got None ss)

-- body = ["begin" block] "end"
unfoldable pub body_of : ℕ → Reads (List Stmt)
body_of d ss = after (optional_of (statement d) w.Begin ss) (λ b rest. mapped (λ _. b) (expect_word w.End rest))

-- does this symbol repeat the opening name
abbrev pub closes : Lex → Sym → Bool
closes n (name b) = same_name n.0 b
closes n (number b) = false
closes n (character b) = false
closes n (word v) = false
closes n (mark k) = false
closes n ending = false

-- the name that repeats the opening one
unfoldable pub closing_of : Lex → Reads (Unit {0})
closing_of n ss = cond (closes n (head ss).symbol) (got tt (tail ss)) (fault Syntax ss)

-- procedure = "procedure" ident ["(" formals {";" formals} ")"] [":" ident] ";" {part} body ident
unfoldable pub procedure_of : ℕ → Reads Proc
procedure_of d ss =
    nested (inner (λ e. e) d) ss
    (λ e r0. after (ident_of r0)
    (λ n r1. after (formals_of e r1)
    (λ fs r2. after (result_of r2)
    (λ o r3. after (expect_mark Semicolon r3)
    (λ _ r4. after (parts_of e r4)
    (λ ps r5. after (body_of e r5)
    (λ b r6. mapped (λ _. procedure (head ss).place n fs o ps (stmts b)) (closing_of n r6))))))))
