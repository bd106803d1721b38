-- Every statement of the grammar is read back. Assumes nothing.
use Rattle.std.proofs.Common.{◌≡◌, ℕ, zero, suc, true, false, cond, List, [], ◌∷◌, Some, None, refl, ap, ◌∙◌}
use Rattle.symbol.specs.Symbols.{Sym, PlacedSym}
use Rattle.symbol.specs.Symbols as symbol
use Rattle.symbol.specs.declared.mark.Mark.TheVariants as m
use Rattle.symbol.specs.declared.word.Word.{Word}
use Rattle.symbol.specs.declared.word.Word.TheVariants as w
use Rattle.cursor.specs.Kinds.{sym_is_word}
use Rattle.cursor.specs.Reading.{got, head, tail, Lex, inner, separator, further_of, list_of}
use Rattle.cursor.proofs.Loops.{further_turns}
use Rattle.expression_tree.specs.Trees.{item, no_expression}
use Rattle.expression_parser.specs.Classes.{selecting}
use Rattle.expression_parser.specs.Readers.{expression_of, factor}
use Rattle.syntax.specs.StatementTrees.{Stmt, Stmts, Elsfs, Exts, stmts, elsifs, exits}
use Rattle.syntax.specs.StatementTrees as tree
use Rattle.syntax.specs.Statements.{an_actual, a_target, following, named_at, named_of, block_of, optional_of, begins, elsif_of, elsifs_of, exit_of, exits_of, if_of, while_of, repeat_of, loop_of, Kind, of_nothing, kind, statement_at, statement_of, statement, level}
use Rattle.syntax.proofs.StatementsWithin.{elsif_turns, exit_turns, statement_within}
use Rattle.grammar.specs.Phrases.{◌at◌}
use Rattle.grammar.specs.Statements.{StmtR, BlockR, MoreR, OptionalR, ElsifsR, ExitsR}
use Rattle.grammar.specs.Stops.{StopE, StopA, StopB}
use Rattle.grammar.proofs.Lists.{stmt_list, stmts_back, elsif_list, elsifs_back, exit_list, exits_back, exprs_back, sels_back}
use Rattle.grammar.proofs.Steps.{on, first, same_first, left_of, word_same, mark_read, word_read, stops, turns}
use Rattle.grammar.proofs.CompleteExpressions.{expr_complete, sels_first, sels_complete, enclosed_complete}

-- ---- symbols behind blocks

pub stop_end : StopB (symbol.word w.End)
stop_end = ((((((refl, refl), refl), refl), refl), refl, refl), refl)

stop_else : StopB (symbol.word w.Else)
stop_else = ((((((refl, refl), refl), refl), refl), refl, refl), refl)

stop_elsif : StopB (symbol.word w.Elsif)
stop_elsif = ((((((refl, refl), refl), refl), refl), refl, refl), refl)

stop_until : StopB (symbol.word w.Until)
stop_until = ((((((refl, refl), refl), refl), refl), refl, refl), refl)

stop_when : StopB (symbol.word w.When)
stop_when = ((((((refl, refl), refl), refl), refl), refl, refl), refl)

stop_exit : StopB (symbol.word w.Exit)
stop_exit = ((((((refl, refl), refl), refl), refl), refl, refl), refl)

stop_semicolon : StopA (symbol.mark m.Semicolon)
stop_semicolon = (((((refl, refl), refl), refl), refl), refl, refl)

stop_then : StopE (symbol.word w.Then)
stop_then = ((((refl, refl), refl), refl), refl)

stop_do : StopE (symbol.word w.Do)
stop_do = ((((refl, refl), refl), refl), refl)

-- ---- what stands first in a repetition: its own first symbol, or what follows it

more_first : (P : Sym → Type 0) → P (symbol.mark m.Semicolon) → (b : Stmts) (d : ℕ) (ss rest : List PlacedSym) → MoreR b d ss rest → P (head rest).symbol → P (head ss).symbol
more_first P q tree.no_statement d ss rest h p = same_first P h p
more_first P q (tree.step s b) d ss rest h p = first P h.1 q

pub optional_first : (P : Sym → Type 0) (v : Word) → P (symbol.word v) → (b : Stmts) (d : ℕ) (ss rest : List PlacedSym) → OptionalR v b d ss rest → P (head rest).symbol → P (head ss).symbol
optional_first P v q tree.no_statement d ss rest h p = same_first P h p
optional_first P v q (tree.step s b) d ss rest h p = first P h.1 q

elsifs_first : (P : Sym → Type 0) → P (symbol.word w.Elsif) → (i : Elsfs) (d : ℕ) (ss rest : List PlacedSym) → ElsifsR i d ss rest → P (head rest).symbol → P (head ss).symbol
elsifs_first P q tree.no_elsif d ss rest h p = same_first P h p
elsifs_first P q (tree.elsif x b i) d ss rest h p = first P h.1 q

exits_first : (P : Sym → Type 0) → P (symbol.word w.When) → (i : Exts) (d : ℕ) (ss rest : List PlacedSym) → ExitsR i d ss rest → P (head rest).symbol → P (head ss).symbol
exits_first P q tree.no_exit d ss rest h p = same_first P h p
exits_first P q (tree.exit x a b i) d ss rest h p = first P h.1 q

-- ---- a statement by its first symbol

statement_at_lem : (d : ℕ) (ss : List PlacedSym) (x : Kind) → kind (head ss).symbol ≡ x → statement d ss ≡ statement_at d (inner level d) x ss
unfolding statement statement_of inner
statement_at_lem zero ss x e = ap (λ y. statement_at zero None y ss) e
statement_at_lem (suc d) ss x e = ap (λ y. statement_at (suc d) (Some (level d)) y ss) e

statement_name : (d : ℕ) (n : Lex) (rest : List PlacedSym) → statement d (symbol.name n.0 at n.1 ∷ rest) ≡ named_of d n rest
unfolding head tail statement statement_of
statement_name zero n rest = refl
statement_name (suc d) n rest = refl

mutual
  unfolding head tail statement statement_of named_of if_of while_of repeat_of loop_of list_of optional_of elsif_of exit_of

  pub stmt_complete : (t : Stmt) (d : ℕ) (ss rest : List PlacedSym) → StmtR t d ss rest → StopA (head rest).symbol → statement d ss ≡ got t rest
  stmt_complete tree.empty d ss rest h k = statement_at_lem d ss of_nothing (same_first (λ s. kind s ≡ of_nothing) h k.2) ∙ ap (got tree.empty) h
  stmt_complete (tree.assignment n s x) d ss rest h k =
      ap (statement d) h.1 ∙ statement_name d n h.0
      ∙ ap (λ y. named_at d n y h.0) (sels_first (λ y. following y ≡ a_target) refl refl s d h.0 h.2.0 h.2.1 (first (λ y. following y ≡ a_target) h.2.2.1 refl))
      ∙ on _ (sels_complete s d h.0 h.2.0 h.2.1 (first (λ y. selecting y ≡ None) h.2.2.1 refl))
      (on _ (mark_read m.Becomes h.2.0 h.2.2.0 h.2.2.1)
      (on _ (expr_complete x d h.2.2.0 rest h.2.2.2 k.0) (ap (λ y. got (tree.assignment n y x) rest) (sels_back s))))
  stmt_complete (tree.procedure_call n no_expression) d ss rest h k = ap (statement d) h ∙ statement_name d n rest ∙ ap (λ y. named_at d n y rest) k.1
  stmt_complete (tree.procedure_call n (item x a)) d ss rest h k =
      ap (statement d) h.1 ∙ statement_name d n h.0
      ∙ ap (λ y. named_at d n y h.0) (first (λ y. following y ≡ an_actual) h.2.1 refl)
      ∙ on _ (enclosed_complete (item x a) d m.RightParen h.0 h.2.0 rest h.2.1 h.2.2 (((((refl, refl), refl), refl), refl), refl)) (ap (λ y. got (tree.procedure_call n y) rest) (exprs_back (item x a)))
  stmt_complete (tree.if_statement p x b i o) zero ss rest h k = absurd h.2
  stmt_complete (tree.if_statement p x b i o) (suc d) ss rest h k =
      ap (statement (suc d)) h.1
      ∙ on _ (expr_complete x d h.0 h.2.0 h.2.1 (first StopE h.2.2.1 stop_then))
      (on _ (word_read w.Then h.2.0 h.2.2.0 h.2.2.1)
      (on _ (block_complete b d h.2.2.0 h.2.2.2.0 h.2.2.2.1
      (elsifs_first StopB stop_elsif i d h.2.2.2.0 h.2.2.2.2.0 h.2.2.2.2.1
      (optional_first StopB w.Else stop_else o d h.2.2.2.2.0 h.2.2.2.2.2.0 h.2.2.2.2.2.1 (first StopB h.2.2.2.2.2.2 stop_end))))
      (on _ (elsifs_complete i d h.2.2.2.0 h.2.2.2.2.0 h.2.2.2.2.1
      (optional_first StopB w.Else stop_else o d h.2.2.2.2.0 h.2.2.2.2.2.0 h.2.2.2.2.2.1 (first StopB h.2.2.2.2.2.2 stop_end))
      (optional_first (λ s. begins w.Elsif s ≡ None) w.Else refl o d h.2.2.2.2.0 h.2.2.2.2.2.0 h.2.2.2.2.2.1 (first (λ s. begins w.Elsif s ≡ None) h.2.2.2.2.2.2 refl)))
      (on _ (optional_complete o w.Else d h.2.2.2.2.0 h.2.2.2.2.2.0 h.2.2.2.2.2.1 (first StopB h.2.2.2.2.2.2 stop_end) (first (λ s. sym_is_word w.Else s ≡ false) h.2.2.2.2.2.2 refl))
      (on _ (word_read w.End h.2.2.2.2.2.0 rest h.2.2.2.2.2.2)
      (ap (λ y. got (tree.if_statement p x y (elsifs (elsif_list i)) (stmts (stmt_list o))) rest) (stmts_back b)
      ∙ ap (λ y. got (tree.if_statement p x b y (stmts (stmt_list o))) rest) (elsifs_back i) ∙ ap (λ y. got (tree.if_statement p x b i y) rest) (stmts_back o)))))))
  stmt_complete (tree.while_statement p x b) zero ss rest h k = absurd h.2
  stmt_complete (tree.while_statement p x b) (suc d) ss rest h k =
      ap (statement (suc d)) h.1
      ∙ on _ (expr_complete x d h.0 h.2.0 h.2.1 (first StopE h.2.2.1 stop_do))
      (on _ (word_read w.Do h.2.0 h.2.2.0 h.2.2.1)
      (on _ (block_complete b d h.2.2.0 h.2.2.2.0 h.2.2.2.1 (first StopB h.2.2.2.2 stop_end))
      (on _ (word_read w.End h.2.2.2.0 rest h.2.2.2.2) (ap (λ y. got (tree.while_statement p x y) rest) (stmts_back b)))))
  stmt_complete (tree.repeat_statement p b x) zero ss rest h k = absurd h.2
  stmt_complete (tree.repeat_statement p b x) (suc d) ss rest h k =
      ap (statement (suc d)) h.1
      ∙ on _ (block_complete b d h.0 h.2.0 h.2.1 (first StopB h.2.2.1 stop_until))
      (on _ (word_read w.Until h.2.0 h.2.2.0 h.2.2.1)
      (on _ (expr_complete x d h.2.2.0 rest h.2.2.2 k.0) (ap (λ y. got (tree.repeat_statement p y x) rest) (stmts_back b))))
  stmt_complete (tree.loop_statement p b x) zero ss rest h k = absurd h.2
  stmt_complete (tree.loop_statement p b x) (suc d) ss rest h k =
      ap (statement (suc d)) h.1
      ∙ on _ (block_complete b d h.0 h.2.0 h.2.1 (exits_first StopB stop_when x d h.2.0 h.2.2.0 h.2.2.1 (first StopB h.2.2.2 stop_end)))
      (on _ (exits_complete x d h.2.0 h.2.2.0 h.2.2.1 (first StopB h.2.2.2 stop_end) (first (λ s. begins w.When s ≡ None) h.2.2.2 refl))
      (on _ (word_read w.End h.2.2.0 rest h.2.2.2)
      (ap (λ y. got (tree.loop_statement p y (exits (exit_list x))) rest) (stmts_back b) ∙ ap (λ y. got (tree.loop_statement p b y) rest) (exits_back x))))

  pub block_complete : (b : Stmts) (d : ℕ) (ss rest : List PlacedSym) → BlockR b d ss rest → StopB (head rest).symbol → block_of (statement d) ss ≡ got (stmt_list b) rest
  block_complete tree.no_statement d ss rest h k = absurd h
  block_complete (tree.step s b) d ss rest h k =
      on _ (stmt_complete s d ss h.0 h.1 (more_first StopA stop_semicolon b d h.0 rest h.2 k.0)) (on _ (more_complete b d h.0 rest h.2 k) refl)

  more_complete : (b : Stmts) (d : ℕ) (ss rest : List PlacedSym) → MoreR b d ss rest → StopB (head rest).symbol → further_of m.Semicolon (statement d) ss ≡ got (stmt_list b) rest
  more_complete tree.no_statement d ss rest h k = stops (separator m.Semicolon) _ (further_turns m.Semicolon (statement d) (statement_within d)) ss rest h (ap (λ v. cond v (Some tt) None) k.1)
  more_complete (tree.step s b) d ss rest h k =
      turns (separator m.Semicolon) _ (further_turns m.Semicolon (statement d) (statement_within d)) tt s (stmt_list b) ss h.2.0 rest (first (λ x. separator m.Semicolon x ≡ Some tt) h.1 refl)
      (on _ (ap (statement d) (left_of h.1) ∙ stmt_complete s d h.0 h.2.0 h.2.1 (more_first StopA stop_semicolon b d h.2.0 rest h.2.2 k.0)) refl)
      (more_complete b d h.2.0 rest h.2.2 k)

  pub optional_complete : (b : Stmts) (v : Word) (d : ℕ) (ss rest : List PlacedSym) → OptionalR v b d ss rest → StopB (head rest).symbol → sym_is_word v (head rest).symbol ≡ false → optional_of (statement d) v ss ≡ got (stmt_list b) rest
  optional_complete tree.no_statement v d ss rest h k e = ap (λ y. cond y (block_of (statement d) (tail ss)) (got [] ss)) (same_first (λ s. sym_is_word v s ≡ false) h e) ∙ ap (got []) h
  optional_complete (tree.step s b) v d ss rest h k e =
      ap (λ y. cond y (block_of (statement d) (tail ss)) (got [] ss)) (first (λ s. sym_is_word v s ≡ true) h.1 (word_same v))
      ∙ ap (block_of (statement d)) (left_of h.1)
      ∙ on _ (stmt_complete s d h.0 h.2.0 h.2.1 (more_first StopA stop_semicolon b d h.2.0 rest h.2.2 k.0)) (on _ (more_complete b d h.2.0 rest h.2.2 k) refl)

  elsifs_complete : (i : Elsfs) (d : ℕ) (ss rest : List PlacedSym) → ElsifsR i d ss rest → StopB (head rest).symbol → begins w.Elsif (head rest).symbol ≡ None → elsifs_of (level d) ss ≡ got (elsif_list i) rest
  elsifs_complete tree.no_elsif d ss rest h k e = stops (begins w.Elsif) _ (elsif_turns (level d) (statement_within d)) ss rest h e
  elsifs_complete (tree.elsif x b i) d ss rest h k e =
      turns (begins w.Elsif) _ (elsif_turns (level d) (statement_within d)) tt (x, stmt_list b) (elsif_list i) ss h.2.2.2.0 rest (first (λ s. begins w.Elsif s ≡ Some tt) h.1 refl)
      (on _ (ap (expression_of (factor d)) (left_of h.1) ∙ expr_complete x d h.0 h.2.0 h.2.1 (first StopE h.2.2.1 stop_then))
      (on _ (word_read w.Then h.2.0 h.2.2.0 h.2.2.1)
      (on _ (block_complete b d h.2.2.0 h.2.2.2.0 h.2.2.2.1 (elsifs_first StopB stop_elsif i d h.2.2.2.0 rest h.2.2.2.2 k)) refl)))
      (elsifs_complete i d h.2.2.2.0 rest h.2.2.2.2 k e)

  exits_complete : (i : Exts) (d : ℕ) (ss rest : List PlacedSym) → ExitsR i d ss rest → StopB (head rest).symbol → begins w.When (head rest).symbol ≡ None → exits_of (level d) ss ≡ got (exit_list i) rest
  exits_complete tree.no_exit d ss rest h k e = stops (begins w.When) _ (exit_turns (level d) (statement_within d)) ss rest h e
  exits_complete (tree.exit x a b i) d ss rest h k e =
      turns (begins w.When) _ (exit_turns (level d) (statement_within d)) tt (x, stmt_list a, stmt_list b) (exit_list i) ss h.2.2.2.2.0 rest (first (λ s. begins w.When s ≡ Some tt) h.1 refl)
      (on _ (ap (expression_of (factor d)) (left_of h.1) ∙ expr_complete x d h.0 h.2.0 h.2.1 (optional_first StopE w.Do stop_do a d h.2.0 h.2.2.0 h.2.2.1 (first StopE h.2.2.2.1 stop_exit.0.0)))
      (on _ (optional_complete a w.Do d h.2.0 h.2.2.0 h.2.2.1 (first StopB h.2.2.2.1 stop_exit) (first (λ s. sym_is_word w.Do s ≡ false) h.2.2.2.1 refl))
      (on _ (word_read w.Exit h.2.2.0 h.2.2.2.0 h.2.2.2.1)
      (on _ (block_complete b d h.2.2.2.0 h.2.2.2.2.0 h.2.2.2.2.1 (exits_first StopB stop_when i d h.2.2.2.2.0 rest h.2.2.2.2.2 k)) refl))))
      (exits_complete i d h.2.2.2.2.0 rest h.2.2.2.2.2 k e)
