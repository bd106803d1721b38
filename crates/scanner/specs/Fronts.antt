-- The symbol that bytes begin with, and how many of them it has.
use Rattle.std.specs.Prelude.{ℕ, cond, not, ◌&&◌, List, length, take, is_some, Some, None, Option, ◌==◌, nat_le, slice_index}
use Rattle.std.specs.Char.{is_ascii_alphanumeric, is_ascii_alphabetic, is_ascii_digit}
use Rattle.std.specs.List.{prefix_len}
use Rattle.symbol.specs.declared.mark.Mark.TheVariants as m
use Rattle.symbol.specs.declared.word.Word.{Word}
use Rattle.symbol.specs.Symbols.{Sym, name, number, character, word, mark, sym_of}
use Rattle.symbol.specs.Words.{reserved}
use Rattle.symbol.specs.Values.{number_value_of, character_value_of}
use Rattle.scanner.specs.declared.front.Front.{Front}

abbrev pub Begun : Type 0
Begun = Option (Sym × ℕ)

abbrev pub begun_of : Front → Sym × ℕ
begun_of f = (sym_of f.symbol, f.len)

-- how many letters and digits stand in front
abbrev pub run : List ℕ → ℕ
run bs = prefix_len is_ascii_alphanumeric bs

-- a name has so many letters and digits
abbrev pub longest_name : ℕ
longest_name = 24

abbrev pub word_or : Option Word → List ℕ → Sym
word_or None part = name part
word_or (Some w) part = word w

-- the whole run is a name or a reserved word
abbrev pub begins_word : List ℕ → Begun
begins_word bs = cond (nat_le (run bs) longest_name) (Some (word_or (reserved (take (run bs) bs)) (take (run bs) bs), run bs)) None

-- the whole run is a number or a character
abbrev pub begins_digit : List ℕ → Begun
begins_digit bs =
    cond (is_some (number_value_of (take (run bs) bs))) (Some (number (take (run bs) bs), run bs))
    (cond (is_some (character_value_of (take (run bs) bs))) (Some (character (take (run bs) bs), run bs)) None)

-- four bytes where the quote itself is quoted, else three
abbrev pub quotes : List ℕ → ℕ
quotes bs = cond (slice_index bs 1 == 34) 4 3

-- a character in quotes, with no letter or digit directly behind it
abbrev pub begins_quote : List ℕ → Begun
begins_quote bs =
    cond (nat_le (quotes bs) (length bs) && (is_some (character_value_of (take (quotes bs) bs)) && not (is_ascii_alphanumeric (slice_index bs (quotes bs)))))
    (Some (character (take (quotes bs) bs), quotes bs)) None

-- an operator, bracket or separator, by the first two bytes
abbrev pub begins_mark : ℕ → ℕ → Begun
begins_mark b c =
    cond (b == 43) (Some (mark m.Plus, 1))
    (cond (b == 45) (Some (mark m.Minus, 1))
    (cond (b == 42) (Some (mark m.Times, 1))
    (cond (b == 47) (Some (mark m.Slash, 1))
    (cond (b == 61) (Some (mark m.Equal, 1))
    (cond (b == 60) (cond (c == 62) (Some (mark m.NotEqual, 2)) (cond (c == 61) (Some (mark m.LessEqual, 2)) (Some (mark m.Less, 1))))
    (cond (b == 62) (cond (c == 61) (Some (mark m.GreaterEqual, 2)) (Some (mark m.Greater, 1)))
    (cond (b == 58) (cond (c == 61) (Some (mark m.Becomes, 2)) (Some (mark m.Colon, 1)))
    (cond (b == 40) (Some (mark m.LeftParen, 1))
    (cond (b == 41) (Some (mark m.RightParen, 1))
    (cond (b == 91) (Some (mark m.LeftBracket, 1))
    (cond (b == 93) (Some (mark m.RightBracket, 1))
    (cond (b == 46) (Some (mark m.Dot, 1))
    (cond (b == 44) (Some (mark m.Comma, 1))
    (cond (b == 59) (Some (mark m.Semicolon, 1)) None))))))))))))))

-- one byte decides which kind of symbol begins
unfoldable pub begins : List ℕ → Begun
begins bs =
    cond (is_ascii_alphabetic (slice_index bs 0)) (begins_word bs)
    (cond (is_ascii_digit (slice_index bs 0)) (begins_digit bs)
    (cond (slice_index bs 0 == 34) (begins_quote bs) (begins_mark (slice_index bs 0) (slice_index bs 1))))
