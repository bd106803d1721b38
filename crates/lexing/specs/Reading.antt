-- All symbols of a text, and where reading stops.
use Rattle.std.specs.Prelude.{◌≡◌, ℕ, zero, suc, ◌<◌, ◌≤◌, Bool, true, false, List, [], ◌∷◌, map, length, Ok, Err, vec_items, Result}
use Rattle.fault.specs.declared.Fault.{Fault}
use Rattle.fault.specs.declared.LoadError.{LoadError}
use Rattle.fault.specs.declared.LoadError.TheVariants.{Text, NoMemory}
use Rattle.fault.specs.declared.Cause.TheVariants.{TooLong}
use Rattle.fault.specs.Numbers.{fault_at}
use Rattle.symbol.specs.Symbols.{Sym, name, number, character, word, mark, ending, PlacedSym, placed_of}
use Rattle.scanner.specs.Scan.{longest_text, Step, scan}
use Rattle.lexing.specs.declared.Symbols.{Symbols}

-- where reading stopped: at the text's end, or at a fault
abbrev pub Stop : Type 0
Stop = Result ℕ Fault

pub record Reading : Type 0 where
  pub list : List PlacedSym
  pub stop : Stop

abbrev pub sym_is_ending : Sym → Bool
sym_is_ending (name part) = false
sym_is_ending (number part) = false
sym_is_ending (character part) = false
sym_is_ending (word w) = false
sym_is_ending (mark m) = false
sym_is_ending ending = true

abbrev pub stopped_at : Stop → Reading
stopped_at s = record { list = []; stop = s }

abbrev pub before : PlacedSym → Reading → Reading
before s r = record { list = s ∷ r.list; stop = r.stop }

-- one step, and from behind it what `more` reads (`elim`, so that nothing is read behind the end)
abbrev pub follow : (ℕ → Reading) → Result Step Fault → Reading
follow more (Err f) = stopped_at (Err f)
follow more (Ok s) =
    elim (sym_is_ending s.read.symbol) [ true ↦ stopped_at (Ok s.read.place) | false ↦ before s.read (more s.behind) ]

-- from the place `at` on, at most n symbols
unfoldable pub read_from : ℕ → List ℕ → ℕ → Reading
read_from zero text at = stopped_at (Ok at)
read_from (suc n) text at = follow (read_from n text) (scan text at)

-- every symbol has a byte at least, so that no text has more symbols than bytes
abbrev pub symbols_of : List ℕ → Reading
symbols_of text = read_from (suc (length text)) text 0

abbrev pub reading_of : Symbols → Reading
reading_of s = record { list = map placed_of (vec_items s.list); stop = s.stop }

-- what `read_symbols` answers
abbrev pub Reads : List ℕ → Result Symbols LoadError → Type 0
Reads text (Ok s) = (length text ≤ longest_text) × (reading_of s ≡ symbols_of text)
Reads text (Err (Text f)) = (longest_text < length text) × (f ≡ fault_at TooLong longest_text)
Reads text (Err NoMemory) = Unit {0}
