-- What is repeated in a tree, as the list that is read. Assumes nothing.
use Rattle.std.proofs.Common.{◌≡◌, List, [], ◌∷◌, refl, ap, ◌∙◌}
use Rattle.cursor.specs.Reading.{Lex}
use Rattle.expression_tree.specs.declared.Adding.{Adding}
use Rattle.expression_tree.specs.declared.Multiplying.{Multiplying}
use Rattle.expression_tree.specs.Trees.{Expr, Ter, Fac, Sel, to_field, to_index, Adds, Muls, Sels, Exprs, adds, muls, sels, exprs}
use Rattle.expression_tree.specs.Trees as expression
use Rattle.type_tree.specs.Trees.{Typ, Secs, secs}
use Rattle.type_tree.specs.Trees as type
use Rattle.syntax.specs.StatementTrees.{Stmt, Stmts, Elsfs, Exts, stmts, elsifs, exits}
use Rattle.syntax.specs.StatementTrees as statement
use Rattle.syntax.specs.ProgramTrees.{Decl, Decls, decls}
use Rattle.syntax.specs.ProgramTrees as program

abbrev pub add_list : Adds → List (Adding × Ter)
add_list expression.no_addend = []
add_list (expression.addend o t a) = (o, t) ∷ add_list a

pub adds_back : (a : Adds) → adds (add_list a) ≡ a
adds_back expression.no_addend = refl
adds_back (expression.addend o t a) = ap (expression.addend o t) (adds_back a)

abbrev pub mul_list : Muls → List (Multiplying × Fac)
mul_list expression.no_multiplier = []
mul_list (expression.multiplier o f a) = (o, f) ∷ mul_list a

pub muls_back : (a : Muls) → muls (mul_list a) ≡ a
muls_back expression.no_multiplier = refl
muls_back (expression.multiplier o f a) = ap (expression.multiplier o f) (muls_back a)

abbrev pub expr_list : Exprs → List Expr
expr_list expression.no_expression = []
expr_list (expression.item x a) = x ∷ expr_list a

pub exprs_back : (a : Exprs) → exprs (expr_list a) ≡ a
exprs_back expression.no_expression = refl
exprs_back (expression.item x a) = ap (expression.item x) (exprs_back a)

abbrev pub sel_list : Sels → List Sel
sel_list expression.no_selector = []
sel_list (expression.field n s) = to_field n ∷ sel_list s
sel_list (expression.index x s) = to_index (expr_list x) ∷ sel_list s

pub sels_back : (a : Sels) → sels (sel_list a) ≡ a
sels_back expression.no_selector = refl
sels_back (expression.field n s) = ap (expression.field n) (sels_back s)
sels_back (expression.index x s) = ap (λ y. expression.index y (sels (sel_list s))) (exprs_back x) ∙ ap (expression.index x) (sels_back s)

abbrev pub sec_list : Secs → List (List Lex × Typ)
sec_list type.no_section = []
sec_list (type.section ns t s) = (ns, t) ∷ sec_list s

pub secs_back : (a : Secs) → secs (sec_list a) ≡ a
secs_back type.no_section = refl
secs_back (type.section ns t s) = ap (type.section ns t) (secs_back s)

abbrev pub stmt_list : Stmts → List Stmt
stmt_list statement.no_statement = []
stmt_list (statement.step s b) = s ∷ stmt_list b

pub stmts_back : (a : Stmts) → stmts (stmt_list a) ≡ a
stmts_back statement.no_statement = refl
stmts_back (statement.step s b) = ap (statement.step s) (stmts_back b)

abbrev pub elsif_list : Elsfs → List (Expr × List Stmt)
elsif_list statement.no_elsif = []
elsif_list (statement.elsif x b i) = (x, stmt_list b) ∷ elsif_list i

pub elsifs_back : (a : Elsfs) → elsifs (elsif_list a) ≡ a
elsifs_back statement.no_elsif = refl
elsifs_back (statement.elsif x b i) = ap (λ y. statement.elsif x y (elsifs (elsif_list i))) (stmts_back b) ∙ ap (statement.elsif x b) (elsifs_back i)

abbrev pub exit_list : Exts → List (Expr × List Stmt × List Stmt)
exit_list statement.no_exit = []
exit_list (statement.exit x a b i) = (x, stmt_list a, stmt_list b) ∷ exit_list i

pub exits_back : (a : Exts) → exits (exit_list a) ≡ a
exits_back statement.no_exit = refl
exits_back (statement.exit x a b i) =
    ap (λ y. statement.exit x y (stmts (stmt_list b)) (exits (exit_list i))) (stmts_back a)
    ∙ ap (λ y. statement.exit x a y (exits (exit_list i))) (stmts_back b) ∙ ap (statement.exit x a b) (exits_back i)

abbrev pub decl_list : Decls → List Decl
decl_list program.no_declaration = []
decl_list (program.declaration x ds) = x ∷ decl_list ds

pub decls_back : (a : Decls) → decls (decl_list a) ≡ a
decls_back program.no_declaration = refl
decls_back (program.declaration x ds) = ap (program.declaration x) (decls_back ds)
