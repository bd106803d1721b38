-- Which symbol it is: marks and words are told apart by a number.
use Rattle.std.specs.Prelude.{ℕ, Bool, true, false, ◌==◌}
use Rattle.symbol.specs.declared.word.Word.{Word}
use Rattle.symbol.specs.declared.word.Word.TheVariants as w
use Rattle.symbol.specs.declared.mark.Mark.{Mark}
use Rattle.symbol.specs.declared.mark.Mark.TheVariants as m
use Rattle.symbol.specs.Symbols.{Sym, name, number, character, word, mark, ending}

abbrev pub mark_number : Mark → ℕ
mark_number m.Plus = 0
mark_number m.Minus = 1
mark_number m.Times = 2
mark_number m.Slash = 3
mark_number m.Equal = 4
mark_number m.NotEqual = 5
mark_number m.Less = 6
mark_number m.LessEqual = 7
mark_number m.Greater = 8
mark_number m.GreaterEqual = 9
mark_number m.Becomes = 10
mark_number m.LeftParen = 11
mark_number m.RightParen = 12
mark_number m.LeftBracket = 13
mark_number m.RightBracket = 14
mark_number m.Dot = 15
mark_number m.Comma = 16
mark_number m.Colon = 17
mark_number m.Semicolon = 18

abbrev pub word_number : Word → ℕ
word_number w.And = 0
word_number w.Array = 1
word_number w.Begin = 2
word_number w.Case = 3
word_number w.Const = 4
word_number w.Define = 5
word_number w.Device = 6
word_number w.Div = 7
word_number w.Do = 8
word_number w.Else = 9
word_number w.Elsif = 10
word_number w.End = 11
word_number w.Exit = 12
word_number w.If = 13
word_number w.Interface = 14
word_number w.Loop = 15
word_number w.Mod = 16
word_number w.Module = 17
word_number w.Not = 18
word_number w.Of = 19
word_number w.Or = 20
word_number w.Procedure = 21
word_number w.Process = 22
word_number w.Record = 23
word_number w.Repeat = 24
word_number w.Then = 25
word_number w.Type = 26
word_number w.Until = 27
word_number w.Use = 28
word_number w.Value = 29
word_number w.Var = 30
word_number w.When = 31
word_number w.While = 32
word_number w.With = 33
word_number w.Xor = 34

abbrev pub sym_is_mark : Mark → Sym → Bool
sym_is_mark m (name b) = false
sym_is_mark m (number b) = false
sym_is_mark m (character b) = false
sym_is_mark m (word v) = false
sym_is_mark m (mark k) = mark_number m == mark_number k
sym_is_mark m ending = false

abbrev pub sym_is_word : Word → Sym → Bool
sym_is_word w (name b) = false
sym_is_word w (number b) = false
sym_is_word w (character b) = false
sym_is_word w (word v) = word_number w == word_number v
sym_is_word w (mark k) = false
sym_is_word w ending = false

abbrev pub sym_is_name : Sym → Bool
sym_is_name (name b) = true
sym_is_name (number b) = false
sym_is_name (character b) = false
sym_is_name (word v) = false
sym_is_name (mark k) = false
sym_is_name ending = false
