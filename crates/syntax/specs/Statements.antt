-- The readers of statements, one for each rule of the grammar.
use Rattle.std.specs.Prelude.{ℕ, zero, suc, cond, List, [], Some, None, Option}
use Rattle.symbol.specs.Symbols.{Sym, name, number, character, word, mark, ending}
use Rattle.symbol.specs.declared.mark.Mark.TheVariants.{LeftParen, RightParen, LeftBracket, Dot, Becomes, Semicolon}
use Rattle.symbol.specs.declared.word.Word.{Word}
use Rattle.symbol.specs.declared.word.Word.TheVariants as w
use Rattle.cursor.specs.Kinds.{sym_is_mark, sym_is_word}
use Rattle.cursor.specs.Reading.{Reads, got, after, mapped, head, tail, expect_mark, expect_word, Lex, inner, nested, loop, list_of}
use Rattle.expression_tree.specs.Trees.{Expr, sels, exprs}
use Rattle.expression_parser.specs.Readers.{expression_of, enclosed_of, selectors_of, factor}
use Rattle.syntax.specs.StatementTrees.{Stmt, empty, assignment, procedure_call, if_statement, while_statement, repeat_statement, loop_statement, stmts, elsifs, exits}

-- what follows a name: actuals, the rest of a variable that is assigned, or nothing
pub data Following : Type 0 where
  an_actual a_target nothing : Following

abbrev pub following : Sym → Following
following s =
    cond (sym_is_mark LeftParen s) an_actual
    (cond (sym_is_mark Becomes s) a_target (cond (sym_is_mark Dot s) a_target (cond (sym_is_mark LeftBracket s) a_target nothing)))

abbrev pub named_at : ℕ → Lex → Following → Reads Stmt
named_at d n an_actual ss = mapped (λ es. procedure_call n (exprs es)) (enclosed_of (inner factor d) RightParen ss)
named_at d n a_target ss =
    after (selectors_of (inner factor d) ss)
    (λ xs rest. after (expect_mark Becomes rest)
    (λ _ left. mapped (assignment n (sels xs)) (expression_of (factor d) left)))
named_at d n nothing ss = got (procedure_call n (exprs [])) ss

-- variable ":=" expression | ident [actuals]: what follows the name
unfoldable pub named_of : ℕ → Lex → Reads Stmt
named_of d n ss = named_at d n (following (head ss).symbol) ss

-- ---- blocks. `s` reads a statement at the same depth

-- block = statement {";" statement}
abbrev pub block_of : Reads Stmt → Reads (List Stmt)
block_of s = list_of Semicolon s

-- [word block]
unfoldable pub optional_of : Reads Stmt → Word → Reads (List Stmt)
optional_of s v ss = cond (sym_is_word v (head ss).symbol) (block_of s (tail ss)) (got [] ss)

-- ---- a level: the allowance for expressions, and the reader of statements there

abbrev pub Level : Type 0
Level = ℕ × Reads Stmt

abbrev pub begins : Word → Sym → Option (Unit {0})
begins v s = cond (sym_is_word v s) (Some tt) None

-- "elsif" expression "then" block
unfoldable pub elsif_of : Level → Reads (Expr × List Stmt)
elsif_of l ss =
    after (expression_of (factor l.0) (tail ss))
    (λ e r1. after (expect_word w.Then r1)
    (λ _ r2. mapped (λ b. (e, b)) (block_of l.1 r2)))

abbrev pub elsifs_of : Level → Reads (List (Expr × List Stmt))
elsifs_of l = loop (begins w.Elsif) (λ _. elsif_of l)

-- "when" expression ["do" block] "exit" block
unfoldable pub exit_of : Level → Reads (Expr × List Stmt × List Stmt)
exit_of l ss =
    after (expression_of (factor l.0) (tail ss))
    (λ e r1. after (optional_of l.1 w.Do r1)
    (λ a r2. after (expect_word w.Exit r2)
    (λ _ r3. mapped (λ b. (e, a, b)) (block_of l.1 r3))))

abbrev pub exits_of : Level → Reads (List (Expr × List Stmt × List Stmt))
exits_of l = loop (begins w.When) (λ _. exit_of l)

-- ---- statements that open. `i` is the level inside, where one is allowed

-- "if" expression "then" block {"elsif" expression "then" block} ["else" block] "end"
unfoldable pub if_of : Option Level → Reads Stmt
if_of i ss =
    nested i ss
    (λ l r0. after (expression_of (factor l.0) r0)
    (λ e r1. after (expect_word w.Then r1)
    (λ _ r2. after (block_of l.1 r2)
    (λ b r3. after (elsifs_of l r3)
    (λ xs r4. after (optional_of l.1 w.Else r4)
    (λ o r5. mapped (λ _. if_statement (head ss).place e (stmts b) (elsifs xs) (stmts o)) (expect_word w.End r5)))))))

-- "while" expression "do" block "end"
unfoldable pub while_of : Option Level → Reads Stmt
while_of i ss =
    nested i ss
    (λ l r0. after (expression_of (factor l.0) r0)
    (λ e r1. after (expect_word w.Do r1)
    (λ _ r2. after (block_of l.1 r2)
    (λ b r3. mapped (λ _. while_statement (head ss).place e (stmts b)) (expect_word w.End r3)))))

-- "repeat" block "until" expression
unfoldable pub repeat_of : Option Level → Reads Stmt
repeat_of i ss =
    nested i ss
    (λ l r0. after (block_of l.1 r0)
    (λ b r1. after (expect_word w.Until r1)
    (λ _ r2. mapped (repeat_statement (head ss).place (stmts b)) (expression_of (factor l.0) r2))))

-- "loop" block {"when" expression ["do" block] "exit" block} "end"
unfoldable pub loop_of : Option Level → Reads Stmt
loop_of i ss =
    nested i ss
    (λ l r0. after (block_of l.1 r0)
    (λ b r1. after (exits_of l r1)
    (λ xs r2. mapped (λ _. loop_statement (head ss).place (stmts b) (exits xs)) (expect_word w.End r2))))

-- what a statement begins with
pub data Kind : Type 0 where
  of_name : List ℕ → Kind
  of_if of_while of_repeat of_loop of_nothing : Kind

abbrev pub kind : Sym → Kind
kind (name b) = of_name b
kind (number b) = of_nothing
kind (character b) = of_nothing
kind (word v) =
    cond (sym_is_word w.If (word v)) of_if
    (cond (sym_is_word w.While (word v)) of_while
    (cond (sym_is_word w.Repeat (word v)) of_repeat
    (cond (sym_is_word w.Loop (word v)) of_loop of_nothing)))
kind (mark m) = of_nothing
kind ending = of_nothing

abbrev pub statement_at : ℕ → Option Level → Kind → Reads Stmt
statement_at d i (of_name b) ss = named_of d (b, (head ss).place) (tail ss)
statement_at d i of_if ss = if_of i ss
statement_at d i of_while ss = while_of i ss
statement_at d i of_repeat ss = repeat_of i ss
statement_at d i of_loop ss = loop_of i ss
statement_at d i of_nothing ss = got empty ss

unfoldable pub statement_of : ℕ → Option Level → Reads Stmt
statement_of d i ss = statement_at d i (kind (head ss).symbol) ss

-- ---- at an allowance: so many constructs may be open inside

unfoldable pub statement : ℕ → Reads Stmt
statement zero = statement_of zero None
statement (suc d) = statement_of (suc d) (Some (d, statement d))

abbrev pub level : ℕ → Level
level d = (d, statement d)
