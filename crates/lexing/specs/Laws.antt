-- The laws of reading, in words of the text: what `Lawful` says stands on the contract of `read_symbols`.
use Rattle.std.specs.Prelude.{◌≡◌, ℕ, ◌+◌, ◌≤◌, List, [], ◌∷◌, ◌++◌, map, length, Ok, Err, vec_items, Result}
use Rattle.fault.specs.declared.LoadError.{LoadError}
use Rattle.symbol.specs.Symbols.{PlacedSym, placed_of}
use Rattle.lexing.specs.declared.Symbols.{Symbols}
use Rattle.lexing.specs.Reading.{Stop}
use Rattle.lexing.specs.Spelling.{Spells, Longest, Apart, Gap}

-- one symbol with the gap before it: together with what follows they are the bytes again
pub record Woven (at : ℕ) (bs : List ℕ) (s : PlacedSym) (rest : List ℕ) : Type 0 where
  pub gap : List ℕ
  pub part : List ℕ
  pub joined : bs ≡ gap ++ (part ++ rest)
  pub blanks : Gap 0 gap
  pub place : s.place ≡ at + length gap
  pub spelled : Spells s.symbol part
  pub longest : Longest (length part) (part ++ rest)
  pub apart : Apart s.symbol rest

-- where reading stopped: a last gap and the text's end, or a fault within these bytes
abbrev pub Stops : ℕ → List ℕ → Stop → Type 0
Stops at bs (Ok k) = Gap 0 bs × (k ≡ at + length bs)
Stops at bs (Err f) = (at ≤ f.place) × (f.place ≤ at + length bs)

-- gap, symbol, gap, symbol and so on, put together, are the bytes from the place `at` on
abbrev pub Lexed : ℕ → List ℕ → List PlacedSym → Stop → Type 0
Lexed at bs [] stop = Stops at bs stop
Lexed at bs (s ∷ ss) stop = (rest : List ℕ) × (w : Woven at bs s rest) × Lexed (s.place + length w.part) rest ss stop

-- the laws of a text that was read
pub record Laws (text : List ℕ) (ss : List PlacedSym) (stop : Stop) : Type 0 where
  -- the parts of the symbols and the gaps between them, put together, are the text again
  pub lexed : Lexed 0 text ss stop
  -- there is no other way to part the text: if it can be parted to its end at all, then so
  pub only : (ts : List PlacedSym) (k : ℕ) → Lexed 0 text ts (Ok k) → (ts ≡ ss) × (Ok k ≡ stop)
  -- no more symbols than bytes
  pub few : length ss ≤ length text

abbrev pub Lawful : List ℕ → Result Symbols LoadError → Type 0
Lawful text (Ok s) = Laws text (map placed_of (vec_items s.list)) s.stop
Lawful text (Err e) = Unit {0}
