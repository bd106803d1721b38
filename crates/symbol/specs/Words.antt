-- Reserved words and marks, and how they are written.
use Rattle.std.specs.Prelude.{◌≡◌, ℕ, Bool, List, [], ◌∷◌, map, Some, None, codes, Option, ◌≢◌}
use Rattle.std.specs.Char.{to_ascii_lowercase}
use Rattle.std.specs.List.{find}
use Rattle.std.specs.Str.{bytes_eq}
use Rattle.symbol.specs.declared.word.Word.{Word}
use Rattle.symbol.specs.declared.word.Word.TheVariants as w
use Rattle.symbol.specs.declared.mark.Mark.{Mark}
use Rattle.symbol.specs.declared.mark.Mark.TheVariants as m

-- capital and small letters are the same
abbrev pub same_name : List ℕ → List ℕ → Bool
same_name a b = bytes_eq (map to_ascii_lowercase a) (map to_ascii_lowercase b)

abbrev pub word_spelling : Word → List ℕ
word_spelling w.And = codes "and"
word_spelling w.Array = codes "array"
word_spelling w.Begin = codes "begin"
word_spelling w.Case = codes "case"
word_spelling w.Const = codes "const"
word_spelling w.Define = codes "define"
word_spelling w.Device = codes "device"
word_spelling w.Div = codes "div"
word_spelling w.Do = codes "do"
word_spelling w.Else = codes "else"
word_spelling w.Elsif = codes "elsif"
word_spelling w.End = codes "end"
word_spelling w.Exit = codes "exit"
word_spelling w.If = codes "if"
word_spelling w.Interface = codes "interface"
word_spelling w.Loop = codes "loop"
word_spelling w.Mod = codes "mod"
word_spelling w.Module = codes "module"
word_spelling w.Not = codes "not"
word_spelling w.Of = codes "of"
word_spelling w.Or = codes "or"
word_spelling w.Procedure = codes "procedure"
word_spelling w.Process = codes "process"
word_spelling w.Record = codes "record"
word_spelling w.Repeat = codes "repeat"
word_spelling w.Then = codes "then"
word_spelling w.Type = codes "type"
word_spelling w.Until = codes "until"
word_spelling w.Use = codes "use"
word_spelling w.Value = codes "value"
word_spelling w.Var = codes "var"
word_spelling w.When = codes "when"
word_spelling w.While = codes "while"
word_spelling w.With = codes "with"
word_spelling w.Xor = codes "xor"

abbrev pub words : List Word
words =
    w.And ∷
    w.Array ∷
    w.Begin ∷
    w.Case ∷
    w.Const ∷
    w.Define ∷
    w.Device ∷
    w.Div ∷
    w.Do ∷
    w.Else ∷
    w.Elsif ∷
    w.End ∷
    w.Exit ∷
    w.If ∷
    w.Interface ∷
    w.Loop ∷
    w.Mod ∷
    w.Module ∷
    w.Not ∷
    w.Of ∷
    w.Or ∷
    w.Procedure ∷
    w.Process ∷
    w.Record ∷
    w.Repeat ∷
    w.Then ∷
    w.Type ∷
    w.Until ∷
    w.Use ∷
    w.Value ∷
    w.Var ∷
    w.When ∷
    w.While ∷
    w.With ∷
    w.Xor ∷
    []

-- the first of the words that is written so
abbrev pub reserved : List ℕ → Option Word
reserved bs = find (λ x. same_name bs (word_spelling x)) words

-- what `reserved` finds is written so, and what is written as a reserved word is found
abbrev pub Reserves : List ℕ → Option Word → Type 0
Reserves bs (Some x) = map to_ascii_lowercase bs ≡ word_spelling x
Reserves bs None = (x : Word) → map to_ascii_lowercase bs ≢ word_spelling x

abbrev pub mark_spelling : Mark → List ℕ
mark_spelling m.Plus = codes "+"
mark_spelling m.Minus = codes "-"
mark_spelling m.Times = codes "*"
mark_spelling m.Slash = codes "/"
mark_spelling m.Equal = codes "="
mark_spelling m.NotEqual = codes "<>"
mark_spelling m.Less = codes "<"
mark_spelling m.LessEqual = codes "<="
mark_spelling m.Greater = codes ">"
mark_spelling m.GreaterEqual = codes ">="
mark_spelling m.Becomes = codes ":="
mark_spelling m.LeftParen = codes "("
mark_spelling m.RightParen = codes ")"
mark_spelling m.LeftBracket = codes "["
mark_spelling m.RightBracket = codes "]"
mark_spelling m.Dot = codes "."
mark_spelling m.Comma = codes ","
mark_spelling m.Colon = codes ":"
mark_spelling m.Semicolon = codes ";"
