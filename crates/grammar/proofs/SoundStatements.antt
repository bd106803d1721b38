-- The readers of statements read what the grammar says. Assumes nothing.
use Rattle.std.proofs.Common.{◌≡◌, ℕ, zero, suc, true, List, [], ◌∷◌, Some, refl, arith}
use Rattle.std.proofs.lemmas.Bool.Decides.{nat_tests}
use Rattle.symbol.specs.Symbols.{Sym, PlacedSym}
use Rattle.symbol.specs.Symbols as symbol
use Rattle.symbol.specs.declared.mark.Mark.TheVariants as m
use Rattle.symbol.specs.declared.word.Word.{Word}
use Rattle.symbol.specs.declared.word.Word.TheVariants as w
use Rattle.cursor.specs.Kinds.{sym_is_mark, sym_is_word}
use Rattle.cursor.specs.Reading.{head, tail, Lex, inner}
use Rattle.expression_tree.specs.Trees.{Expr, exprs}
use Rattle.syntax.specs.StatementTrees.{Stmt, Stmts, stmts, elsifs, exits}
use Rattle.syntax.specs.StatementTrees as tree
use Rattle.syntax.specs.Statements.{Following, an_actual, a_target, nothing, following, named_at, named_of, block_of, optional_of, begins, elsif_of, elsifs_of, exit_of, exits_of, if_of, while_of, repeat_of, loop_of, Kind, of_name, of_if, of_while, of_repeat, of_loop, of_nothing, kind, statement_at, statement_of, statement, level}
use Rattle.grammar.specs.Phrases.{◌then◌, mark, word, ident, deeper, repeated, separated}
use Rattle.grammar.specs.Expressions.{ExprR, ExprsR}
use Rattle.grammar.specs.Statements.{StmtR, BlockR, MoreR, OptionalR, ElsifsR, ExitsR}
use Rattle.grammar.proofs.Holding.{Holds, done, faulted, bind, weaken, choose, starts, starts_mark, starts_word, mark_holds, word_holds, list_holds, loop_holds}
use Rattle.grammar.proofs.SoundExpressions.{keeps_in, enclosed_sound, selectors_sound, expr_sound}

-- ---- what follows a name

actual_is : (s : Sym) → following s ≡ an_actual → sym_is_mark m.LeftParen s ≡ true
actual_is s e = grind (arith, nat_tests)

call_of : (d : ℕ) (n : Lex) (es : List Expr) (all ss mid rest : List PlacedSym) → ident n all ss → mark m.LeftParen ss mid → deeper d (λ e. ExprsR (exprs es) e then mark m.RightParen) mid rest → StmtR (tree.procedure_call n (exprs es)) d all rest
call_of zero n es all ss mid rest i o h = absurd h
call_of (suc d) n [] all ss mid rest i o h = absurd h.1
call_of (suc d) n (x ∷ es) all ss mid rest i o h = (ss, i, (mid, o, h))

pub named_sound : (d : ℕ) (n : Lex) (ss all : List PlacedSym) → ident n all ss → Holds (λ t rest. StmtR t d all rest) (named_of d n ss)
unfolding named_of
named_sound d n ss all i = go (following (head ss).symbol) refl
  where
    go : (x : Following) → following (head ss).symbol ≡ x → Holds (λ t rest. StmtR t d all rest) (named_at d n x ss)
    go an_actual e = bind (enclosed_sound d (keeps_in d) m.RightParen ss) (λ es rest h. done (call_of d n es all ss (tail ss) rest i ((head ss).place, starts_mark m.LeftParen ss (actual_is (head ss).symbol e)) h))
    go a_target e =
        bind (selectors_sound d (keeps_in d) ss)
        (λ xs r1 h1. bind (mark_holds m.Becomes r1)
        (λ _ r2 h2. bind (expr_sound d r2)
        (λ x rest h3. done (ss, i, (r1, h1, (r2, h2, h3))))))
    go nothing e = done i

-- ---- blocks

abbrev pub Keeps : ℕ → Type 0
Keeps d = (ss : List PlacedSym) → Holds (λ t rest. StmtR t d ss rest) (statement d ss)

abbrev pub KeepsIn : ℕ → Type 0
KeepsIn zero = Unit {0}
KeepsIn (suc d) = Keeps d

more_of : (d : ℕ) (xs : List Stmt) (ss rest : List PlacedSym) → repeated (λ x. mark m.Semicolon then StmtR x d) xs ss rest → MoreR (stmts xs) d ss rest
more_of d [] ss rest h = h
more_of d (x ∷ xs) ss rest h = (h.1.0, h.1.1, (h.0, h.1.2, more_of d xs h.0 rest h.2))

block_of_lem : (d : ℕ) (xs : List Stmt) (ss rest : List PlacedSym) → separated m.Semicolon (λ x. StmtR x d) xs ss rest → BlockR (stmts xs) d ss rest
block_of_lem d [] ss rest h = h
block_of_lem d (x ∷ xs) ss rest h = (h.0, h.1, more_of d xs h.0 rest h.2)

word_block : (d : ℕ) (v : Word) (b : Stmts) (ss mid rest : List PlacedSym) → word v ss mid → BlockR b d mid rest → OptionalR v b d ss rest
word_block d v tree.no_statement ss mid rest o h = absurd h
word_block d v (tree.step x b) ss mid rest o h = (mid, o, h)

module _ (d : ℕ) (k : Keeps d) where
  pub block_sound : (ss : List PlacedSym) → Holds (λ xs rest. BlockR (stmts xs) d ss rest) (block_of (statement d) ss)
  block_sound ss = weaken (list_holds m.Semicolon (statement d) (λ x. StmtR x d) k ss) (λ xs rest h. block_of_lem d xs ss rest h)

  pub optional_sound : (v : Word) (ss : List PlacedSym) → Holds (λ xs rest. OptionalR v (stmts xs) d ss rest) (optional_of (statement d) v ss)
  unfolding optional_of
  optional_sound v ss =
      choose (sym_is_word v (head ss).symbol)
      (λ e. weaken (block_sound (tail ss)) (λ xs rest h. word_block d v (stmts xs) ss (tail ss) rest ((head ss).place, starts_word v ss e) h))
      (λ e. done refl)

  begins_is : (v : Word) (s : Sym) (o : Unit {0}) → begins v s ≡ Some o → sym_is_word v s ≡ true
  begins_is v s o e = grind (arith, nat_tests)

  elsifs_sound : (ss : List PlacedSym) → Holds (λ xs rest. ElsifsR (elsifs xs) d ss rest) (elsifs_of (level d) ss)
  unfolding elsif_of
  elsifs_sound ss =
      loop_holds (begins w.Elsif) (λ _. elsif_of (level d)) (λ x. word w.Elsif then ExprR x.0 d then word w.Then then BlockR (stmts x.1) d)
      (λ o l e. bind (expr_sound d (tail l))
      (λ x r1 h1. bind (word_holds w.Then r1)
      (λ _ r2 h2. bind (block_sound r2)
      (λ b rest h3. done (tail l, ((head l).place, starts_word w.Elsif l (begins_is w.Elsif (head l).symbol o e)), (r1, h1, (r2, h2, h3)))))))
      (λ xs. ElsifsR (elsifs xs) d) (λ l. refl)
      (λ x xs l mid rest h k. (h.0, h.1, (h.2.0, h.2.1, (h.2.2.0, h.2.2.1, (mid, h.2.2.2, k))))) ss

  exits_sound : (ss : List PlacedSym) → Holds (λ xs rest. ExitsR (exits xs) d ss rest) (exits_of (level d) ss)
  unfolding exit_of
  exits_sound ss =
      loop_holds (begins w.When) (λ _. exit_of (level d)) (λ x. word w.When then ExprR x.0 d then OptionalR w.Do (stmts x.1) d then word w.Exit then BlockR (stmts x.2) d)
      (λ o l e. bind (expr_sound d (tail l))
      (λ x r1 h1. bind (optional_sound w.Do r1)
      (λ a r2 h2. bind (word_holds w.Exit r2)
      (λ _ r3 h3. bind (block_sound r3)
      (λ b rest h4. done (tail l, ((head l).place, starts_word w.When l (begins_is w.When (head l).symbol o e)), (r1, h1, (r2, h2, (r3, h3, h4)))))))))
      (λ xs. ExitsR (exits xs) d) (λ l. refl)
      (λ x xs l mid rest h k. (h.0, h.1, (h.2.0, h.2.1, (h.2.2.0, h.2.2.1, (h.2.2.2.0, h.2.2.2.1, (mid, h.2.2.2.2, k)))))) ss

-- ---- what opens

if_sound : (d : ℕ) → KeepsIn d → (ss : List PlacedSym) → sym_is_word w.If (head ss).symbol ≡ true → Holds (λ t rest. StmtR t d ss rest) (if_of (inner level d) ss)
unfolding if_of inner
if_sound zero k ss e = faulted
if_sound (suc d) k ss e =
    bind (expr_sound d (tail ss))
    (λ x r1 h1. bind (word_holds w.Then r1)
    (λ _ r2 h2. bind (block_sound d k r2)
    (λ b r3 h3. bind (elsifs_sound d k r3)
    (λ i r4 h4. bind (optional_sound d k w.Else r4)
    (λ o r5 h5. bind (word_holds w.End r5)
    (λ _ rest h6. done (tail ss, starts_word w.If ss e, (r1, h1, (r2, h2, (r3, h3, (r4, h4, (r5, h5, h6))))))))))))

while_sound : (d : ℕ) → KeepsIn d → (ss : List PlacedSym) → sym_is_word w.While (head ss).symbol ≡ true → Holds (λ t rest. StmtR t d ss rest) (while_of (inner level d) ss)
unfolding while_of inner
while_sound zero k ss e = faulted
while_sound (suc d) k ss e =
    bind (expr_sound d (tail ss))
    (λ x r1 h1. bind (word_holds w.Do r1)
    (λ _ r2 h2. bind (block_sound d k r2)
    (λ b r3 h3. bind (word_holds w.End r3)
    (λ _ rest h4. done (tail ss, starts_word w.While ss e, (r1, h1, (r2, h2, (r3, h3, h4))))))))

repeat_sound : (d : ℕ) → KeepsIn d → (ss : List PlacedSym) → sym_is_word w.Repeat (head ss).symbol ≡ true → Holds (λ t rest. StmtR t d ss rest) (repeat_of (inner level d) ss)
unfolding repeat_of inner
repeat_sound zero k ss e = faulted
repeat_sound (suc d) k ss e =
    bind (block_sound d k (tail ss))
    (λ b r1 h1. bind (word_holds w.Until r1)
    (λ _ r2 h2. bind (expr_sound d r2)
    (λ x rest h3. done (tail ss, starts_word w.Repeat ss e, (r1, h1, (r2, h2, h3))))))

loop_sound : (d : ℕ) → KeepsIn d → (ss : List PlacedSym) → sym_is_word w.Loop (head ss).symbol ≡ true → Holds (λ t rest. StmtR t d ss rest) (loop_of (inner level d) ss)
unfolding loop_of inner
loop_sound zero k ss e = faulted
loop_sound (suc d) k ss e =
    bind (block_sound d k (tail ss))
    (λ b r1 h1. bind (exits_sound d k r1)
    (λ x r2 h2. bind (word_holds w.End r2)
    (λ _ rest h3. done (tail ss, starts_word w.Loop ss e, (r1, h1, (r2, h2, h3))))))

name_is : (s : Sym) (b : List ℕ) → kind s ≡ of_name b → s ≡ symbol.name b
name_is s b e = grind (arith, nat_tests)

if_is : (s : Sym) → kind s ≡ of_if → sym_is_word w.If s ≡ true
if_is s e = grind (arith, nat_tests)

while_is : (s : Sym) → kind s ≡ of_while → sym_is_word w.While s ≡ true
while_is s e = grind (arith, nat_tests)

repeat_is : (s : Sym) → kind s ≡ of_repeat → sym_is_word w.Repeat s ≡ true
repeat_is s e = grind (arith, nat_tests)

loop_is : (s : Sym) → kind s ≡ of_loop → sym_is_word w.Loop s ≡ true
loop_is s e = grind (arith, nat_tests)

statement_step : (d : ℕ) → KeepsIn d → (ss : List PlacedSym) → Holds (λ t rest. StmtR t d ss rest) (statement_of d (inner level d) ss)
unfolding statement_of
statement_step d k ss = go (kind (head ss).symbol) refl
  where
    go : (x : Kind) → kind (head ss).symbol ≡ x → Holds (λ t rest. StmtR t d ss rest) (statement_at d (inner level d) x ss)
    go (of_name b) e = named_sound d (b, (head ss).place) (tail ss) ss (starts ss (symbol.name b) (name_is (head ss).symbol b e) (λ z. grind arith))
    go of_if e = if_sound d k ss (if_is (head ss).symbol e)
    go of_while e = while_sound d k ss (while_is (head ss).symbol e)
    go of_repeat e = repeat_sound d k ss (repeat_is (head ss).symbol e)
    go of_loop e = loop_sound d k ss (loop_is (head ss).symbol e)
    go of_nothing e = done refl

pub statement_sound : (d : ℕ) → Keeps d
unfolding statement inner
statement_sound zero ss = statement_step zero tt ss
statement_sound (suc d) ss = statement_step (suc d) (λ l. statement_sound d l) ss
