-- What a symbol is to a reader of expressions.
use Rattle.std.specs.Prelude.{ℕ, cond, List, Some, None, Option}
use Rattle.symbol.specs.Symbols.{Sym, name, number, character, word, mark, ending}
use Rattle.symbol.specs.declared.word.Word.TheVariants as w
use Rattle.symbol.specs.declared.mark.Mark.TheVariants as m
use Rattle.cursor.specs.Kinds.{sym_is_mark, sym_is_word}
use Rattle.expression_tree.specs.declared.Relation.{Relation}
use Rattle.expression_tree.specs.declared.Sign.{Sign}
use Rattle.expression_tree.specs.declared.Adding.{Adding}
use Rattle.expression_tree.specs.declared.Multiplying.{Multiplying}

abbrev pub relation : Sym → Option Relation
relation s =
    cond (sym_is_mark m.Equal s) (Some Relation.Equal)
    (cond (sym_is_mark m.NotEqual s) (Some Relation.NotEqual)
    (cond (sym_is_mark m.Less s) (Some Relation.Less)
    (cond (sym_is_mark m.LessEqual s) (Some Relation.LessEqual)
    (cond (sym_is_mark m.Greater s) (Some Relation.Greater)
    (cond (sym_is_mark m.GreaterEqual s) (Some Relation.GreaterEqual) None)))))

abbrev pub sign : Sym → Option Sign
sign s = cond (sym_is_mark m.Plus s) (Some Sign.Plus) (cond (sym_is_mark m.Minus s) (Some Sign.Minus) None)

abbrev pub adding : Sym → Option Adding
adding s =
    cond (sym_is_mark m.Plus s) (Some Adding.Plus)
    (cond (sym_is_mark m.Minus s) (Some Adding.Minus)
    (cond (sym_is_word w.Or s) (Some Adding.Or)
    (cond (sym_is_word w.Xor s) (Some Adding.Xor) None)))

abbrev pub multiplying : Sym → Option Multiplying
multiplying s =
    cond (sym_is_mark m.Times s) (Some Multiplying.Times)
    (cond (sym_is_mark m.Slash s) (Some Multiplying.Slash)
    (cond (sym_is_word w.Div s) (Some Multiplying.Div)
    (cond (sym_is_word w.Mod s) (Some Multiplying.Mod)
    (cond (sym_is_word w.And s) (Some Multiplying.And) None))))

-- what a factor begins with
pub data Start : Type 0 where
  a_number a_character a_name : List ℕ → Start
  an_opening a_not other : Start

abbrev pub start : Sym → Start
start (name b) = a_name b
start (number b) = a_number b
start (character b) = a_character b
start (word v) = cond (sym_is_word w.Not (word v)) a_not other
start (mark k) = cond (sym_is_mark m.LeftParen (mark k)) an_opening other
start ending = other

-- what a selector begins with
pub data Selecting : Type 0 where
  by_field by_index : Selecting

abbrev pub selecting : Sym → Option Selecting
selecting s = cond (sym_is_mark m.Dot s) (Some by_field) (cond (sym_is_mark m.LeftBracket s) (Some by_index) None)
