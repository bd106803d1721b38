-- What a tree says: the same without its boxes, and names, numbers and characters by their bytes.
use Rattle.std.specs.Prelude.{ℕ, List, [], ◌∷◌, Option}
use Rattle.cursor.specs.Reading.{Lex}
use Rattle.cursor.specs.Promises.{lex_of}
use Rattle.expression_tree.specs.declared.Relation.{Relation}
use Rattle.expression_tree.specs.declared.Sign.{Sign}
use Rattle.expression_tree.specs.declared.Adding.{Adding}
use Rattle.expression_tree.specs.declared.Multiplying.{Multiplying}
use Rattle.expression_tree.specs.declared.Expression.{Expression}
use Rattle.expression_tree.specs.declared.Expression.TheVariants as expression
use Rattle.expression_tree.specs.declared.Simple.{Simple, Simple', Row_of-Addend, end_of-Addend, more_of-Addend}
use Rattle.expression_tree.specs.declared.Addend.{Addend, Addend'}
use Rattle.expression_tree.specs.declared.Term.{Term, Term', Row_of-Multiplier, end_of-Multiplier, more_of-Multiplier}
use Rattle.expression_tree.specs.declared.Multiplier.{Multiplier}
use Rattle.expression_tree.specs.declared.Factor.{Factor, Row_of-Selector, end_of-Selector, more_of-Selector, Row_of-Expression, end_of-Expression, more_of-Expression}
use Rattle.expression_tree.specs.declared.Factor.TheVariants as factor
use Rattle.expression_tree.specs.declared.Selector.{Selector}
use Rattle.expression_tree.specs.declared.Selector.TheVariants as selector

mutual
  pub data Expr : Type 0 where
    plain : Simp → Expr
    related : Simp → Relation → Simp → Expr

  -- the place of the first symbol, a sign, a term and what is added
  pub data Simp : Type 0 where
    sum : ℕ → Option Sign → Ter → Adds → Simp

  pub data Adds : Type 0 where
    no_addend : Adds
    addend : Adding → Ter → Adds → Adds

  pub data Ter : Type 0 where
    product : Fac → Muls → Ter

  pub data Muls : Type 0 where
    no_multiplier : Muls
    multiplier : Multiplying → Fac → Muls → Muls

  pub data Fac : Type 0 where
    number : Lex → Fac
    character : Lex → Fac
    variable : Lex → Sels → Fac
    call : Lex → Exprs → Fac
    paren : ℕ → Expr → Fac
    negated : ℕ → Fac → Fac

  pub data Sels : Type 0 where
    no_selector : Sels
    field : Lex → Sels → Sels
    index : Exprs → Sels → Sels

  pub data Exprs : Type 0 where
    no_expression : Exprs
    item : Expr → Exprs → Exprs

-- ---- what is repeated, as it is read: a list of items

abbrev pub adds : List (Adding × Ter) → Adds
adds [] = no_addend
adds (x ∷ xs) = addend x.0 x.1 (adds xs)

abbrev pub muls : List (Multiplying × Fac) → Muls
muls [] = no_multiplier
muls (x ∷ xs) = multiplier x.0 x.1 (muls xs)

pub data Sel : Type 0 where
  to_field : Lex → Sel
  to_index : List Expr → Sel

abbrev pub exprs : List Expr → Exprs
exprs [] = no_expression
exprs (x ∷ xs) = item x (exprs xs)

abbrev pub select : Sel → Sels → Sels
select (to_field n) s = field n s
select (to_index es) s = index (exprs es) s

abbrev pub sels : List Sel → Sels
sels [] = no_selector
sels (x ∷ xs) = select x (sels xs)

-- ---- what the code's trees say

abbrev mutual
  pub expr_of : Expression → Expr
  expr_of (expression.Plain' p s) = plain (simp_of s)
  expr_of (expression.Related' p s r q t) = related (simp_of s) r (simp_of t)

  pub simp_of : Simple → Simp
  simp_of (Simple' k g t v xs) = sum k g (ter_of t) (adds (adds_of xs))

  pub addend_of : Addend → Adding × Ter
  addend_of (Addend' o t) = (o, ter_of t)

  pub adds_of : {n : _} → Row_of-Addend n → List (Adding × Ter)
  adds_of end_of-Addend = []
  adds_of (more_of-Addend x xs) = addend_of x ∷ adds_of xs

  pub ter_of : Term → Ter
  ter_of (Term' f v ms) = product (fac_of f) (muls (muls_of ms))

  pub muls_of : {n : _} → Row_of-Multiplier n → List (Multiplying × Fac)
  muls_of end_of-Multiplier = []
  muls_of (more_of-Multiplier o f ms) = (o, fac_of f) ∷ muls_of ms

  pub fac_of : Factor → Fac
  fac_of (factor.Number l) = number (lex_of l)
  fac_of (factor.Character l) = character (lex_of l)
  fac_of (factor.Variable' l v s) = variable (lex_of l) (sels (sels_of s))
  fac_of (factor.Call' l v e) = call (lex_of l) (exprs (exprs_of e))
  fac_of (factor.Paren' k p e) = paren k (expr_of e)
  fac_of (factor.Not' k p f) = negated k (fac_of f)

  pub sel_of : Selector → Sel
  sel_of (selector.Field l) = to_field (lex_of l)
  sel_of (selector.Index' v e) = to_index (exprs_of e)

  pub sels_of : {n : _} → Row_of-Selector n → List Sel
  sels_of end_of-Selector = []
  sels_of (more_of-Selector x xs) = sel_of x ∷ sels_of xs

  pub exprs_of : {n : _} → Row_of-Expression n → List Expr
  exprs_of end_of-Expression = []
  exprs_of (more_of-Expression e es) = expr_of e ∷ exprs_of es

abbrev pub multiplier_of : Multiplier → Multiplying × Fac
multiplier_of m = (m.multiplying, fac_of m.factor)
