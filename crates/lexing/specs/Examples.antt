-- Worked examples of the definitions: values of numbers and characters, and the symbols of small texts.
use Rattle.std.specs.Prelude.{◌≡◌, ℕ, List, [], ◌∷◌, Some, None, Ok, Err, codes, Option}
use Rattle.fault.specs.declared.Cause.TheVariants.{NoSymbol}
use Rattle.fault.specs.Numbers.{fault_at}
use Rattle.symbol.specs.declared.mark.Mark.TheVariants as m
use Rattle.symbol.specs.declared.word.Word.TheVariants as w
use Rattle.symbol.specs.Symbols.{Sym, name, number, word, mark, PlacedSym}
use Rattle.symbol.specs.Values.{number_value_of, character_value_of}
use Rattle.lexing.specs.Reading.{Stop, Reading, symbols_of}

abbrev pub placed : Sym → ℕ → PlacedSym
placed s k = record { symbol = s; place = k }

abbrev pub reading : List PlacedSym → Stop → Reading
reading ss stop = record { list = ss; stop = stop }

pub record Examples : Type 0 where
  -- numbers: octal with B, leading zeros, the largest and one more
  pub octal : number_value_of (codes "17B") ≡ Some 15
  pub zeros : number_value_of (codes "08") ≡ Some 8
  pub largest : number_value_of (codes "2147483647") ≡ Some 2147483647
  pub beyond : ◌≡◌ {A = Option ℕ} (number_value_of (codes "2147483648")) None
  pub largest_octal : number_value_of (codes "17777777777b") ≡ Some 2147483647
  pub nine : ◌≡◌ {A = Option ℕ} (number_value_of (codes "9B")) None
  -- characters: by their number, in quotes, the quote itself
  pub ordinal : character_value_of (codes "101C") ≡ Some 65
  pub in_quotes : character_value_of (34 ∷ 65 ∷ 34 ∷ []) ≡ Some 65
  pub the_quote : character_value_of (34 ∷ 34 ∷ 34 ∷ 34 ∷ []) ≡ Some 34
  pub last_character : character_value_of (codes "177C") ≡ Some 127
  pub no_character : ◌≡◌ {A = Option ℕ} (character_value_of (codes "200C")) None
  -- the end of an inner comment does not end the outer one
  pub inner : symbols_of (codes "(* (* *) a *) b") ≡ reading (placed (name (codes "b")) 14 ∷ []) (Ok 15)
  pub unended : symbols_of (codes "(* (* *)") ≡ reading [] (Err (fault_at NoSymbol 8))
  pub not_ended : symbols_of (codes "(*)") ≡ reading [] (Err (fault_at NoSymbol 3))
  -- a reserved word in capitals, the longest mark, a number
  pub words : symbols_of (codes "If a<=1B") ≡ reading (placed (word w.If) 0 ∷ placed (name (codes "a")) 3 ∷ placed (mark m.LessEqual) 4 ∷ placed (number (codes "1B")) 6 ∷ []) (Ok 8)
  -- no letter directly behind a number; what stood before is read
  pub stuck : symbols_of (codes "a 12x") ≡ reading (placed (name (codes "a")) 0 ∷ []) (Err (fault_at NoSymbol 2))
