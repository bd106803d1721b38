-- The grammar of expressions, rule by rule: which symbols a tree stands for, with at most `d` constructs open inside.
use Rattle.std.specs.Prelude.{ℕ, Some, None, Option}
use Rattle.symbol.specs.Symbols.{Sym}
use Rattle.symbol.specs.Symbols as symbol
use Rattle.symbol.specs.declared.mark.Mark.TheVariants as m
use Rattle.symbol.specs.declared.word.Word.TheVariants as w
use Rattle.expression_tree.specs.declared.Relation.{Relation}
use Rattle.expression_tree.specs.declared.Sign.{Sign}
use Rattle.expression_tree.specs.declared.Adding.{Adding}
use Rattle.expression_tree.specs.declared.Multiplying.{Multiplying}
use Rattle.expression_tree.specs.Trees.{Expr, Simp, Adds, Ter, Muls, Fac, Sels, Exprs}
use Rattle.expression_tree.specs.Trees as tree
use Rattle.grammar.specs.Phrases.{Phrase, ◌then◌, nothing, never, symbol_of, mark, mark_at, word_at, ident, number, character, begun, deeper}

-- "=" | "<>" | "<" | "<=" | ">" | ">="
abbrev pub relation_sym : Relation → Sym
relation_sym Relation.Equal = symbol.mark m.Equal
relation_sym Relation.NotEqual = symbol.mark m.NotEqual
relation_sym Relation.Less = symbol.mark m.Less
relation_sym Relation.LessEqual = symbol.mark m.LessEqual
relation_sym Relation.Greater = symbol.mark m.Greater
relation_sym Relation.GreaterEqual = symbol.mark m.GreaterEqual

-- "+" | "-"
abbrev pub sign_sym : Sign → Sym
sign_sym Sign.Plus = symbol.mark m.Plus
sign_sym Sign.Minus = symbol.mark m.Minus

-- "+" | "-" | "or" | "xor"
abbrev pub adding_sym : Adding → Sym
adding_sym Adding.Plus = symbol.mark m.Plus
adding_sym Adding.Minus = symbol.mark m.Minus
adding_sym Adding.Or = symbol.word w.Or
adding_sym Adding.Xor = symbol.word w.Xor

-- "*" | "/" | "div" | "mod" | "and"
abbrev pub multiplying_sym : Multiplying → Sym
multiplying_sym Multiplying.Times = symbol.mark m.Times
multiplying_sym Multiplying.Slash = symbol.mark m.Slash
multiplying_sym Multiplying.Div = symbol.word w.Div
multiplying_sym Multiplying.Mod = symbol.word w.Mod
multiplying_sym Multiplying.And = symbol.word w.And

-- ["+" | "-"]
abbrev pub SignR : Option Sign → Phrase
SignR None = nothing
SignR (Some g) = symbol_of (sign_sym g)

abbrev mutual
  -- expression = simple [("="|"<>"|"<"|"<="|">"|">=") simple]
  pub ExprR : Expr → ℕ → Phrase
  ExprR (tree.plain a) d = SimpR a d
  ExprR (tree.related a r b) d = SimpR a d then symbol_of (relation_sym r) then SimpR b d

  -- simple = ["+"|"-"] term {("+"|"-"|"or"|"xor") term}
  pub SimpR : Simp → ℕ → Phrase
  SimpR (tree.sum k g t a) d = begun k (SignR g then TerR t d then AddsR a d)

  -- {("+"|"-"|"or"|"xor") term}
  pub AddsR : Adds → ℕ → Phrase
  AddsR tree.no_addend d = nothing
  AddsR (tree.addend o t a) d = symbol_of (adding_sym o) then TerR t d then AddsR a d

  -- term = factor {("*"|"/"|"div"|"mod"|"and") factor}
  pub TerR : Ter → ℕ → Phrase
  TerR (tree.product f a) d = FacR f d then MulsR a d

  -- {("*"|"/"|"div"|"mod"|"and") factor}
  pub MulsR : Muls → ℕ → Phrase
  MulsR tree.no_multiplier d = nothing
  MulsR (tree.multiplier o f a) d = symbol_of (multiplying_sym o) then FacR f d then MulsR a d

  -- factor = number | character | variable | ident actuals | "(" expression ")" | "not" factor
  -- variable = ident {"." ident | "[" expression {"," expression} "]"}
  -- actuals = "(" expression {"," expression} ")"
  pub FacR : Fac → ℕ → Phrase
  FacR (tree.number n) d = number n
  FacR (tree.character n) d = character n
  FacR (tree.variable n s) d = ident n then SelsR s d
  FacR (tree.call n x) d = ident n then mark m.LeftParen then deeper d (λ e. ExprsR x e then mark m.RightParen)
  FacR (tree.paren k x) d = mark_at m.LeftParen k then deeper d (λ e. ExprR x e then mark m.RightParen)
  FacR (tree.negated k f) d = word_at w.Not k then deeper d (λ e. FacR f e)

  -- {"." ident | "[" expression {"," expression} "]"}
  pub SelsR : Sels → ℕ → Phrase
  SelsR tree.no_selector d = nothing
  SelsR (tree.field n s) d = mark m.Dot then ident n then SelsR s d
  SelsR (tree.index x s) d = mark m.LeftBracket then deeper d (λ e. ExprsR x e then mark m.RightBracket) then SelsR s d

  -- expression {"," expression}
  pub ExprsR : Exprs → ℕ → Phrase
  ExprsR tree.no_expression d = never
  ExprsR (tree.item x a) d = ExprR x d then MoreR a d

  -- {"," expression}
  pub MoreR : Exprs → ℕ → Phrase
  MoreR tree.no_expression d = nothing
  MoreR (tree.item x a) d = mark m.Comma then ExprR x d then MoreR a d
