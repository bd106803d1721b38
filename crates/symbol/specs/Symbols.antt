-- A symbol by what it says: a name, a number and a character by their bytes, and not by where these lie in memory.
use Rattle.std.specs.Prelude.{ℕ, List}
use Rattle.symbol.specs.declared.word.Word.{Word}
use Rattle.symbol.specs.declared.mark.Mark.{Mark}
use Rattle.symbol.specs.declared.Symbol.{Symbol}
use Rattle.symbol.specs.declared.Symbol.TheVariants as coded
use Rattle.symbol.specs.declared.Placed.{Placed}

pub data Sym : Type 0 where
  name number character : List ℕ → Sym
  word : Word → Sym
  mark : Mark → Sym
  ending : Sym

abbrev pub sym_of : Symbol → Sym
sym_of (coded.Name part) = name part.now
sym_of (coded.Number part) = number part.now
sym_of (coded.Character part) = character part.now
sym_of (coded.Word w) = word w
sym_of (coded.Mark m) = mark m
sym_of coded.End = ending

-- a symbol with its place
pub record PlacedSym : Type 0 where
  pub symbol : Sym
  pub place : ℕ

abbrev pub placed_of : Placed → PlacedSym
placed_of p = record { symbol = sym_of p.symbol; place = p.place }
