-- No reader of statements reads anything twice. Assumes nothing.
use Rattle.std.proofs.Common.{ℕ, zero, suc, List, [], length, Some, None, Option, refl, arith}
use Rattle.symbol.specs.Symbols.{PlacedSym}
use Rattle.symbol.specs.declared.mark.Mark.TheVariants.{RightParen, Becomes, Semicolon}
use Rattle.symbol.specs.declared.word.Word.{Word}
use Rattle.symbol.specs.declared.word.Word.TheVariants as w
use Rattle.cursor.specs.Kinds.{sym_is_word}
use Rattle.cursor.specs.Reading.{Reads, head, tail, expect_mark, expect_word, Lex, inner}
use Rattle.cursor.proofs.Loops.{Within, Reading, All, Turns, all_inner, within_after, within_mapped, within_tail, within_cond, reading_got, mark_within, word_within, nested_within, loop_within, list_within}
use Rattle.expression_parser.specs.Readers.{expression_of, enclosed_of, selectors_of, factor}
use Rattle.expression_parser.proofs.Within.{factor_within, expression_within, enclosed_within, selectors_within}
use Rattle.syntax.specs.StatementTrees.{Stmt}
use Rattle.syntax.specs.Statements.{Following, an_actual, a_target, nothing, following, named_at, named_of, block_of, optional_of, Level, begins, elsif_of, elsifs_of, exit_of, exits_of, if_of, while_of, repeat_of, loop_of, Kind, of_name, of_if, of_while, of_repeat, of_loop, of_nothing, kind, statement_at, statement_of, statement}

pub expr_within : (d : ℕ) → Reading (expression_of (factor d))
expr_within d ss = expression_within (factor d) (factor_within d) ss

factors : (d : ℕ) → All Reading (inner factor d)
factors d = all_inner Reading factor d factor_within

named_at_lem : (d : ℕ) (n : Lex) (x : Following) → Reading (named_at d n x)
named_at_lem d n an_actual ss = within_mapped _ _ (enclosed_of (inner factor d) RightParen ss) (within_tail (enclosed_of (inner factor d) RightParen ss) ss (enclosed_within (inner factor d) (factors d) RightParen ss))
named_at_lem d n a_target ss =
    within_after _ (selectors_of (inner factor d) ss) _ (selectors_within (inner factor d) (factors d) ss)
    (λ xs rest. within_after _ (expect_mark Becomes rest) _ (mark_within Becomes rest) (λ _ left. within_mapped _ _ (expression_of (factor d) left) (expr_within d left)))
named_at_lem d n nothing ss = omega arith

pub named_within : (d : ℕ) (n : Lex) → Reading (named_of d n)
unfolding named_of
named_within d n ss = named_at_lem d n (following (head ss).symbol) ss

pub block_within : (s : Reads Stmt) → Reading s → Reading (block_of s)
block_within s v ss = list_within Semicolon s v ss

pub optional_within : (s : Reads Stmt) → Reading s → (x : Word) → Reading (optional_of s x)
unfolding optional_of
optional_within s v x ss = within_cond _ (sym_is_word x (head ss).symbol) _ _ (within_tail (block_of s (tail ss)) ss (block_within s v (tail ss))) (reading_got {A = List Stmt} [] ss)

-- what is asked of a level
abbrev pub Sound : Level → Type 0
Sound l = Reading l.1

module _ (l : Level) (v : Sound l) where
  elsif_within : (ss : List PlacedSym) → Within (length (tail ss)) (elsif_of l ss)
  unfolding elsif_of
  elsif_within ss =
      within_after _ (expression_of (factor l.0) (tail ss)) _ (expr_within l.0 (tail ss))
      (λ e r1. within_after _ (expect_word w.Then r1) _ (word_within w.Then r1) (λ _ r2. within_mapped _ _ (block_of l.1 r2) (block_within l.1 v r2)))

  pub elsif_turns : Turns (begins w.Elsif) (λ _. elsif_of l)
  elsif_turns = record { ends = refl; reads = λ _ ss. elsif_within ss }

  exit_within : (ss : List PlacedSym) → Within (length (tail ss)) (exit_of l ss)
  unfolding exit_of
  exit_within ss =
      within_after _ (expression_of (factor l.0) (tail ss)) _ (expr_within l.0 (tail ss))
      (λ e r1. within_after _ (optional_of l.1 w.Do r1) _ (optional_within l.1 v w.Do r1)
      (λ a r2. within_after _ (expect_word w.Exit r2) _ (word_within w.Exit r2) (λ _ r3. within_mapped _ _ (block_of l.1 r3) (block_within l.1 v r3))))

  pub exit_turns : Turns (begins w.When) (λ _. exit_of l)
  exit_turns = record { ends = refl; reads = λ _ ss. exit_within ss }

module _ (i : Option Level) (v : All Sound i) where
  if_within : (ss : List PlacedSym) → Within (length (tail ss)) (if_of i ss)
  unfolding if_of
  if_within ss =
      nested_within Sound i ss _ v
      (λ l s r0. within_after _ (expression_of (factor l.0) r0) _ (expr_within l.0 r0)
      (λ e r1. within_after _ (expect_word w.Then r1) _ (word_within w.Then r1)
      (λ _ r2. within_after _ (block_of l.1 r2) _ (block_within l.1 s r2)
      (λ b r3. within_after _ (elsifs_of l r3) _ (loop_within _ _ (elsif_turns l s) r3)
      (λ xs r4. within_after _ (optional_of l.1 w.Else r4) _ (optional_within l.1 s w.Else r4)
      (λ o r5. within_mapped _ _ (expect_word w.End r5) (word_within w.End r5)))))))

  while_within : (ss : List PlacedSym) → Within (length (tail ss)) (while_of i ss)
  unfolding while_of
  while_within ss =
      nested_within Sound i ss _ v
      (λ l s r0. within_after _ (expression_of (factor l.0) r0) _ (expr_within l.0 r0)
      (λ e r1. within_after _ (expect_word w.Do r1) _ (word_within w.Do r1)
      (λ _ r2. within_after _ (block_of l.1 r2) _ (block_within l.1 s r2)
      (λ b r3. within_mapped _ _ (expect_word w.End r3) (word_within w.End r3)))))

  repeat_within : (ss : List PlacedSym) → Within (length (tail ss)) (repeat_of i ss)
  unfolding repeat_of
  repeat_within ss =
      nested_within Sound i ss _ v
      (λ l s r0. within_after _ (block_of l.1 r0) _ (block_within l.1 s r0)
      (λ b r1. within_after _ (expect_word w.Until r1) _ (word_within w.Until r1)
      (λ _ r2. within_mapped _ _ (expression_of (factor l.0) r2) (expr_within l.0 r2))))

  loop_statement_within : (ss : List PlacedSym) → Within (length (tail ss)) (loop_of i ss)
  unfolding loop_of
  loop_statement_within ss =
      nested_within Sound i ss _ v
      (λ l s r0. within_after _ (block_of l.1 r0) _ (block_within l.1 s r0)
      (λ b r1. within_after _ (exits_of l r1) _ (loop_within _ _ (exit_turns l s) r1)
      (λ xs r2. within_mapped _ _ (expect_word w.End r2) (word_within w.End r2))))

  statement_at_lem : (d : ℕ) (k : Kind) → Reading (statement_at d i k)
  statement_at_lem d (of_name b) ss = within_tail (named_of d _ (tail ss)) ss (named_within d _ (tail ss))
  statement_at_lem d of_if ss = within_tail (if_of i ss) ss (if_within ss)
  statement_at_lem d of_while ss = within_tail (while_of i ss) ss (while_within ss)
  statement_at_lem d of_repeat ss = within_tail (repeat_of i ss) ss (repeat_within ss)
  statement_at_lem d of_loop ss = within_tail (loop_of i ss) ss (loop_statement_within ss)
  statement_at_lem d of_nothing ss = omega arith

  statement_of_within : (d : ℕ) → Reading (statement_of d i)
  unfolding statement_of
  statement_of_within d ss = statement_at_lem d (kind (head ss).symbol) ss

pub statement_within : (d : ℕ) → Reading (statement d)
unfolding statement
statement_within zero = statement_of_within None tt zero
statement_within (suc d) = statement_of_within (Some (d, statement d)) (statement_within d) (suc d)
