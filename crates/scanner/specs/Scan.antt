-- The next symbol of a text from a place on.
use Rattle.std.specs.Prelude.{ℕ, ◌+◌, List, [], ◌∷◌, drop, Some, None, Ok, Err, Result}
use Rattle.fault.specs.declared.Fault.{Fault}
use Rattle.fault.specs.declared.Cause.TheVariants.{NoSymbol}
use Rattle.fault.specs.Numbers.{fault_at}
use Rattle.symbol.specs.Symbols.{Sym, ending, PlacedSym}
use Rattle.scanner.specs.Gaps.{gap}
use Rattle.scanner.specs.Fronts.{Begun, begins}

-- a text has at most so many bytes
abbrev pub longest_text : ℕ
longest_text = 16384

-- a symbol with its place, and the place where the next gap begins
pub record Step : Type 0 where
  pub read : PlacedSym
  pub behind : ℕ

abbrev pub step_to : Sym → ℕ → ℕ → Step
step_to s k j = record { read = record { symbol = s; place = k }; behind = j }

abbrev pub and_then : {A B : Type 0} → Result A Fault → (A → Result B Fault) → Result B Fault
and_then (Ok x) f = f x
and_then (Err e) f = Err e

abbrev pub begun : ℕ → Begun → Result Step Fault
begun k None = Err (fault_at NoSymbol k)
begun k (Some f) = Ok (step_to f.0 k (k + f.1))

-- the symbol that begins at the place k, before the bytes bs
abbrev pub symbol_here : ℕ → List ℕ → Result Step Fault
symbol_here k [] = Ok (step_to ending k k)
symbol_here k (b ∷ bs) = begun k (begins (b ∷ bs))

-- the next symbol of the text behind the place `at`: the gap first
unfoldable pub scan : List ℕ → ℕ → Result Step Fault
scan text at = and_then (gap 0 at (drop at text)) (λ k. symbol_here k (drop k text))
