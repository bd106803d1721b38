-- The plain trees of statements.
use Rattle.std.specs.Prelude.{ℕ, List, [], ◌∷◌}
use Rattle.cursor.specs.Reading.{Lex}
use Rattle.expression_tree.specs.Trees.{Expr, Sels, Exprs}

mutual
  pub data Stmt : Type 0 where
    empty : Stmt
    assignment : Lex → Sels → Expr → Stmt
    procedure_call : Lex → Exprs → Stmt
    if_statement : ℕ → Expr → Stmts → Elsfs → Stmts → Stmt
    while_statement : ℕ → Expr → Stmts → Stmt
    repeat_statement : ℕ → Stmts → Expr → Stmt
    loop_statement : ℕ → Stmts → Exts → Stmt

  pub data Stmts : Type 0 where
    no_statement : Stmts
    step : Stmt → Stmts → Stmts

  pub data Elsfs : Type 0 where
    no_elsif : Elsfs
    elsif : Expr → Stmts → Elsfs → Elsfs

  pub data Exts : Type 0 where
    no_exit : Exts
    exit : Expr → Stmts → Stmts → Exts → Exts

-- ---- what is repeated, as it is read: a list of items

abbrev pub stmts : List Stmt → Stmts
stmts [] = no_statement
stmts (x ∷ xs) = step x (stmts xs)

abbrev pub elsifs : List (Expr × List Stmt) → Elsfs
elsifs [] = no_elsif
elsifs (x ∷ xs) = elsif x.0 (stmts x.1) (elsifs xs)

abbrev pub exits : List (Expr × List Stmt × List Stmt) → Exts
exits [] = no_exit
exits (x ∷ xs) = exit x.0 (stmts x.1) (stmts x.2) (exits xs)
