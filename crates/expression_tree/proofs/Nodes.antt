-- What a node says, by what its lists hold. Assumes nothing.
use Rattle.std.proofs.Common.{◌≡◌, refl, ap, ◌∙◌, map, ◌∷◌}
use Rattle.cursor.specs.Promises.{lex_of}
use Rattle.cursor.specs.declared.Lexeme.{Lexeme}
use Rattle.std.specs.declared.alloc.Global.{Global}
use Rattle.std.specs.declared.vec.Vec.{Vec}
use Rattle.expression_tree.specs.declared.Expression.{Expression}
use Rattle.expression_tree.specs.declared.Expression.TheOpen.{Simple-F, Addend-F, Term-F}
use Rattle.expression_tree.specs.declared.Expression.TheBlock.{hidden-the_row-Addend-2, hidden-the_row-Multiplier-3, hidden-the_row-Selector-0, hidden-the_row-Expression-1}
use Rattle.expression_tree.specs.declared.Simple.{Simple, roll-Simple, rolls-Simple', Row_of-Addend, end_of-Addend, more_of-Addend, items-the_row-Addend, items_hidden-the_row-Addend-2}
use Rattle.expression_tree.specs.declared.Addend.{Addend, roll-Addend, rolls-Addend'}
use Rattle.expression_tree.specs.declared.Term.{Term, roll-Term, rolls-Term', Row_of-Multiplier, end_of-Multiplier, more_of-Multiplier, items-the_row-Multiplier, items_hidden-the_row-Multiplier-3}
use Rattle.expression_tree.specs.declared.Multiplier.{Multiplier}
use Rattle.expression_tree.specs.declared.Factor.{Factor, Row_of-Selector, end_of-Selector, more_of-Selector, items-the_row-Selector, items_hidden-the_row-Selector-0, Row_of-Expression, end_of-Expression, more_of-Expression, items-the_row-Expression, items_hidden-the_row-Expression-1}
use Rattle.expression_tree.specs.declared.Factor.TheVariants as factor
use Rattle.expression_tree.specs.declared.Selector.{Selector}
use Rattle.expression_tree.specs.declared.Selector.TheVariants as selector
use Rattle.expression_tree.specs.Trees.{sum, product, variable, call, to_index, adds, muls, sels, exprs, expr_of, simp_of, addend_of, adds_of, ter_of, multiplier_of, muls_of, fac_of, sel_of, sels_of, exprs_of}

addends_listed : {n : _} (k : Row_of-Addend n) → adds_of k ≡ map addend_of (items-the_row-Addend n k)
addends_listed end_of-Addend = refl
addends_listed (more_of-Addend x xs) = ap (λ l. addend_of x ∷ l) (addends_listed xs)

multipliers_listed : {n : _} (k : Row_of-Multiplier n) → muls_of k ≡ map multiplier_of (items-the_row-Multiplier n k)
multipliers_listed end_of-Multiplier = refl
multipliers_listed (more_of-Multiplier o f xs) = ap (λ l. (o, fac_of f) ∷ l) (multipliers_listed xs)

selectors_listed : {n : _} (k : Row_of-Selector n) → sels_of k ≡ map sel_of (items-the_row-Selector n k)
selectors_listed end_of-Selector = refl
selectors_listed (more_of-Selector x xs) = ap (λ l. sel_of x ∷ l) (selectors_listed xs)

expressions_listed : {n : _} (k : Row_of-Expression n) → exprs_of k ≡ map expr_of (items-the_row-Expression n k)
expressions_listed end_of-Expression = refl
expressions_listed (more_of-Expression x xs) = ap (λ l. expr_of x ∷ l) (expressions_listed xs)

pub simple_says : (x : Simple-F Expression Factor Selector Addend Multiplier Simple Term) → simp_of (roll-Simple x) ≡ sum x.place x.sign (ter_of x.first) (adds (map addend_of x.addends.items))
simple_says x =
    ap simp_of (rolls-Simple' x)
    ∙ ap (λ l. sum x.place x.sign (ter_of x.first) (adds l)) (addends_listed (hidden-the_row-Addend-2 x.addends) ∙ ap (map addend_of) (items_hidden-the_row-Addend-2 x.addends))

pub addend_says : (x : Addend-F Expression Factor Selector Addend Multiplier Simple Term) → addend_of (roll-Addend x) ≡ (x.adding, ter_of x.term)
addend_says x = ap addend_of (rolls-Addend' x)

pub term_says : (x : Term-F Expression Factor Selector Addend Multiplier Simple Term) → ter_of (roll-Term x) ≡ product (fac_of x.first) (muls (map multiplier_of x.multipliers.items))
term_says x =
    ap ter_of (rolls-Term' x)
    ∙ ap (λ l. product (fac_of x.first) (muls l)) (multipliers_listed (hidden-the_row-Multiplier-3 x.multipliers) ∙ ap (map multiplier_of) (items_hidden-the_row-Multiplier-3 x.multipliers))

pub variable_says : (name : Lexeme) (v : Vec Selector Global) → fac_of (factor.Variable name v) ≡ variable (lex_of name) (sels (map sel_of v.items))
variable_says name v = ap (λ l. variable (lex_of name) (sels l)) (selectors_listed (hidden-the_row-Selector-0 v) ∙ ap (map sel_of) (items_hidden-the_row-Selector-0 v))

pub call_says : (name : Lexeme) (v : Vec Expression Global) → fac_of (factor.Call name v) ≡ call (lex_of name) (exprs (map expr_of v.items))
call_says name v = ap (λ l. call (lex_of name) (exprs l)) (expressions_listed (hidden-the_row-Expression-1 v) ∙ ap (map expr_of) (items_hidden-the_row-Expression-1 v))

pub index_says : (v : Vec Expression Global) → sel_of (selector.Index v) ≡ to_index (map expr_of v.items)
index_says v = ap to_index (expressions_listed (hidden-the_row-Expression-1 v) ∙ ap (map expr_of) (items_hidden-the_row-Expression-1 v))
