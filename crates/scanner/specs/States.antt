-- What a scanner holds, and what its calls promise of it.
use Rattle.std.specs.Prelude.{◌≡◌, ℕ, ◌<◌, ◌≤◌, List, length, Ok, Err, Result}
use Rattle.fault.specs.declared.Fault.{Fault}
use Rattle.fault.specs.declared.Cause.TheVariants.{TooLong}
use Rattle.fault.specs.Numbers.{fault_at}
use Rattle.symbol.specs.declared.Placed.{Placed}
use Rattle.symbol.specs.Symbols.{Sym, name, number, character, word, mark, ending, sym_of, placed_of}
use Rattle.scanner.specs.declared.scanner.Scanner.{Scanner}
use Rattle.scanner.specs.Scan.{longest_text, Step}

abbrev pub text_of : Scanner → List ℕ
text_of s = s.text.now

abbrev pub place_in : Scanner → ℕ
place_in s = s.at

-- a text that is not too long is scanned from its first byte on
abbrev pub Starts : List ℕ → Result Scanner Fault → Type 0
Starts text (Ok s) = (length text ≤ longest_text) × ((text_of s ≡ text) × (place_in s ≡ 0))
Starts text (Err f) = (longest_text < length text) × (f ≡ fault_at TooLong longest_text)

-- what the scanner answers, together with the place that it goes on from
abbrev pub answered : Result Placed Fault → ℕ → Result Step Fault
answered (Ok p) j = Ok (record { read = placed_of p; behind = j })
answered (Err f) j = Err f

-- a fault leaves the scanner where it was
abbrev pub next_place : Result Step Fault → ℕ → ℕ
next_place (Ok s) k = s.behind
next_place (Err f) k = k

-- every symbol but the end takes bytes
abbrev pub Past : Sym → ℕ → ℕ → Type 0
Past (name part) from behind = from < behind
Past (number part) from behind = from < behind
Past (character part) from behind = from < behind
Past (word w) from behind = from < behind
Past (mark m) from behind = from < behind
Past ending from behind = from ≤ behind

abbrev pub Forward : Result Placed Fault → ℕ → ℕ → Type 0
Forward (Ok p) from behind = Past (sym_of p.symbol) from behind
Forward (Err f) from behind = behind ≡ from
