-- The readers of expressions, one for each rule of the grammar.
use Rattle.std.specs.Prelude.{ℕ, zero, suc, cond, List, Some, None, Option}
use Rattle.fault.specs.declared.Cause.TheVariants.{Syntax}
use Rattle.symbol.specs.Symbols.{PlacedSym}
use Rattle.symbol.specs.declared.mark.Mark.{Mark}
use Rattle.symbol.specs.declared.mark.Mark.TheVariants.{LeftParen, RightParen, RightBracket, Comma}
use Rattle.cursor.specs.Kinds.{sym_is_mark}
use Rattle.cursor.specs.Reading.{Reads, got, fault, after, mapped, head, tail, expect_mark, Lex, ident_of, nested, loop, behind, paired, list_of}
use Rattle.expression_tree.specs.declared.Relation.{Relation}
use Rattle.expression_tree.specs.declared.Sign.{Sign}
use Rattle.expression_tree.specs.declared.Adding.{Adding}
use Rattle.expression_tree.specs.declared.Multiplying.{Multiplying}
use Rattle.expression_tree.specs.Trees.{Expr, Simp, Ter, Fac, Sel, plain, related, sum, adds, product, muls, number, character, variable, call, paren, negated, to_field, to_index, sels, exprs}
use Rattle.expression_parser.specs.Classes.{relation, sign, adding, multiplying, Start, a_number, a_character, a_name, an_opening, a_not, other, start, Selecting, by_field, by_index, selecting}

-- ---- the grammar. `f` reads a factor at the same depth

-- {("*"|"/"|"div"|"mod"|"and") factor}
abbrev pub multipliers_of : Reads Fac → Reads (List (Multiplying × Fac))
multipliers_of f = loop multiplying (behind paired f)

-- term = factor {("*"|"/"|"div"|"mod"|"and") factor}
unfoldable pub term_of : Reads Fac → Reads Ter
term_of f ss = after (f ss) (λ x rest. mapped (λ ms. product x (muls ms)) (multipliers_of f rest))

-- {("+"|"-"|"or"|"xor") term}
abbrev pub addends_of : Reads Fac → Reads (List (Adding × Ter))
addends_of f = loop adding (behind paired (term_of f))

-- what is left behind a sign
abbrev pub unsigned : Option Sign → List PlacedSym → List PlacedSym
unsigned None ss = ss
unsigned (Some g) ss = tail ss

abbrev pub signed_of : Reads Fac → Option Sign → Reads Simp
signed_of f g ss = after (term_of f (unsigned g ss)) (λ t rest. mapped (λ xs. sum (head ss).place g t (adds xs)) (addends_of f rest))

-- simple = ["+"|"-"] term {("+"|"-"|"or"|"xor") term}
unfoldable pub simple_of : Reads Fac → Reads Simp
simple_of f ss = signed_of f (sign (head ss).symbol) ss

abbrev pub related_of : Reads Fac → Option Relation → Simp → Reads Expr
related_of f None a ss = got (plain a) ss
related_of f (Some r) a ss = mapped (related a r) (simple_of f (tail ss))

-- expression = simple [("="|"<>"|"<"|"<="|">"|">=") simple]
unfoldable pub expression_of : Reads Fac → Reads Expr
expression_of f ss = after (simple_of f ss) (λ a rest. related_of f (relation (head rest).symbol) a rest)

-- ---- what is nested. `i` is the reader of factors one level deeper, where one is allowed

-- the symbol that opens, expressions parted by commas, and the mark that closes
unfoldable pub enclosed_of : Option (Reads Fac) → Mark → Reads (List Expr)
enclosed_of i close ss = nested i ss (λ f rest. after (list_of Comma (expression_of f) rest) (λ es left. mapped (λ _. es) (expect_mark close left)))

abbrev pub selector_of : Option (Reads Fac) → Selecting → Reads Sel
selector_of i by_field ss = mapped to_field (ident_of (tail ss))
selector_of i by_index ss = mapped to_index (enclosed_of i RightBracket ss)

-- {"." ident | "[" expression {"," expression} "]"}
unfoldable pub selectors_of : Option (Reads Fac) → Reads (List Sel)
selectors_of i = loop selecting (selector_of i)

-- variable, or ident actuals: what follows the name
unfoldable pub named_of : Option (Reads Fac) → Lex → Reads Fac
named_of i n ss =
    cond (sym_is_mark LeftParen (head ss).symbol) (mapped (λ es. call n (exprs es)) (enclosed_of i RightParen ss))
    (mapped (λ xs. variable n (sels xs)) (selectors_of i ss))

abbrev pub factor_at : Option (Reads Fac) → Start → Reads Fac
factor_at i (a_number b) ss = got (number (b, (head ss).place)) (tail ss)
factor_at i (a_character b) ss = got (character (b, (head ss).place)) (tail ss)
factor_at i (a_name b) ss = named_of i (b, (head ss).place) (tail ss)
factor_at i an_opening ss = nested i ss (λ f rest. after (expression_of f rest) (λ e left. mapped (λ _. paren (head ss).place e) (expect_mark RightParen left)))
factor_at i a_not ss = nested i ss (λ f rest. mapped (negated (head ss).place) (f rest))
factor_at i other ss = fault Syntax ss

-- factor = number | character | variable | ident actuals | "(" expression ")" | "not" factor
unfoldable pub factor_of : Option (Reads Fac) → Reads Fac
factor_of i ss = factor_at i (start (head ss).symbol) ss

-- ---- each at an allowance: so many constructs may be open inside

unfoldable pub factor : ℕ → Reads Fac
factor zero = factor_of None
factor (suc d) = factor_of (Some (factor d))
