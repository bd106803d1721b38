-- What yardcheck writes of a text, but for the end of the line.
use Rattle.std.specs.Prelude.{◌≡◌, ℕ, cond, List, ◌++◌, length, Ok, Err, string_bytes, codes, decimal, Result, String, nat_lt}
use Rattle.std.specs.declared.alloc.Global.{Global}
use Rattle.fault.specs.declared.Cause.TheVariants.{TooLong}
use Rattle.fault.specs.declared.LoadError.{LoadError}
use Rattle.fault.specs.declared.LoadError.TheVariants.{Text, NoMemory}
use Rattle.fault.specs.Numbers.{fault_at, fault_line}
use Rattle.scanner.specs.Scan.{longest_text}
use Rattle.lexing.specs.Reading.{Stop, symbols_of}

-- the number of symbols if reading came to the text's end, else the fault
abbrev pub stop_line : ℕ → Stop → List ℕ
stop_line n (Ok place) = decimal n ++ codes " symbols"
stop_line n (Err f) = fault_line f

abbrev pub line : List ℕ → List ℕ
line text = cond (nat_lt longest_text (length text)) (fault_line (fault_at TooLong longest_text)) (stop_line (length (symbols_of text).list) (symbols_of text).stop)

-- the number of symbols or the fault that the line tells, or want of memory
abbrev pub Counts : List ℕ → Result ℕ LoadError → Type 0
Counts text (Ok n) = decimal n ++ codes " symbols" ≡ line text
Counts text (Err (Text f)) = fault_line f ≡ line text
Counts text (Err NoMemory) = Unit {0}

-- the line, or want of memory and nothing else
abbrev pub Tells : List ℕ → Result (String Global) LoadError → Type 0
Tells text (Ok s) = string_bytes s ≡ line text
Tells text (Err (Text f)) = ⊥
Tells text (Err NoMemory) = Unit {0}
