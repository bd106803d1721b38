-- The grammar of statements, rule by rule.
use Rattle.std.specs.Prelude.{ℕ}
use Rattle.symbol.specs.declared.mark.Mark.TheVariants as m
use Rattle.symbol.specs.declared.word.Word.{Word}
use Rattle.symbol.specs.declared.word.Word.TheVariants as w
use Rattle.expression_tree.specs.Trees.{no_expression, item}
use Rattle.syntax.specs.StatementTrees.{Stmt, Stmts, Elsfs, Exts}
use Rattle.syntax.specs.StatementTrees as tree
use Rattle.grammar.specs.Phrases.{Phrase, ◌then◌, nothing, never, mark, word, word_at, ident, deeper}
use Rattle.grammar.specs.Expressions.{ExprR, SelsR, ExprsR}

abbrev mutual
  -- statement = [variable ":=" expression | ident [actuals]
  --   | "if" expression "then" block {"elsif" expression "then" block} ["else" block] "end"
  --   | "while" expression "do" block "end"
  --   | "repeat" block "until" expression
  --   | "loop" block {"when" expression ["do" block] "exit" block} "end"]
  pub StmtR : Stmt → ℕ → Phrase
  StmtR tree.empty d = nothing
  StmtR (tree.assignment n s x) d = ident n then SelsR s d then mark m.Becomes then ExprR x d
  StmtR (tree.procedure_call n no_expression) d = ident n
  StmtR (tree.procedure_call n (item x a)) d = ident n then mark m.LeftParen then deeper d (λ e. ExprsR (item x a) e then mark m.RightParen)
  StmtR (tree.if_statement k x b i o) d = word_at w.If k then deeper d (λ e. ExprR x e then word w.Then then BlockR b e then ElsifsR i e then OptionalR w.Else o e then word w.End)
  StmtR (tree.while_statement k x b) d = word_at w.While k then deeper d (λ e. ExprR x e then word w.Do then BlockR b e then word w.End)
  StmtR (tree.repeat_statement k b x) d = word_at w.Repeat k then deeper d (λ e. BlockR b e then word w.Until then ExprR x e)
  StmtR (tree.loop_statement k b x) d = word_at w.Loop k then deeper d (λ e. BlockR b e then ExitsR x e then word w.End)

  -- block = statement {";" statement}
  pub BlockR : Stmts → ℕ → Phrase
  BlockR tree.no_statement d = never
  BlockR (tree.step s b) d = StmtR s d then MoreR b d

  -- {";" statement}
  pub MoreR : Stmts → ℕ → Phrase
  MoreR tree.no_statement d = nothing
  MoreR (tree.step s b) d = mark m.Semicolon then StmtR s d then MoreR b d

  -- [word block]
  pub OptionalR : Word → Stmts → ℕ → Phrase
  OptionalR v tree.no_statement d = nothing
  OptionalR v (tree.step s b) d = word v then StmtR s d then MoreR b d

  -- {"elsif" expression "then" block}
  pub ElsifsR : Elsfs → ℕ → Phrase
  ElsifsR tree.no_elsif d = nothing
  ElsifsR (tree.elsif x b i) d = word w.Elsif then ExprR x d then word w.Then then BlockR b d then ElsifsR i d

  -- {"when" expression ["do" block] "exit" block}
  pub ExitsR : Exts → ℕ → Phrase
  ExitsR tree.no_exit d = nothing
  ExitsR (tree.exit x a b i) d = word w.When then ExprR x d then OptionalR w.Do a d then word w.Exit then BlockR b d then ExitsR i d
