-- What the code promises, by the readers.
use Rattle.std.specs.Prelude.{◌≡◌, ℕ, suc, List, [], ◌∷◌, Ok, Err, Result}
use Rattle.fault.specs.declared.Cause.{Cause}
use Rattle.fault.specs.declared.Cause.TheVariants.{TooDeep}
use Rattle.fault.specs.Numbers.{fault_at}
use Rattle.symbol.specs.Symbols.{PlacedSym}
use Rattle.std.specs.declared.alloc.AllocError.{AllocError}
use Rattle.cursor.specs.declared.Lexeme.{Lexeme}
use Rattle.cursor.specs.declared.Halt.{Halt}
use Rattle.cursor.specs.declared.Halt.TheVariants as h
use Rattle.cursor.specs.Reading.{Out, got, fault, tail, Lex}

abbrev pub lex_of : Lexeme → Lex
lex_of l = (l.text.now, l.place)

-- a fault at the first unread symbol, or where the symbols are used up
abbrev pub halt_at : Cause → List PlacedSym → Halt
halt_at c [] = h.Ended c
halt_at c (s ∷ ss) = h.Wrong (fault_at c s.place)

abbrev pub Answers : {X T : Type 0} → (X → T) → Result X Halt → List PlacedSym → Out T → Type 0
Answers f (Ok x) rest o = o ≡ got (f x) rest
Answers f (Err (h.Wrong e)) rest o = (c : Cause) × (o ≡ fault c rest) × (h.Wrong e ≡ halt_at c rest)
Answers f (Err (h.Ended k)) rest o = (c : Cause) × (o ≡ fault c rest) × (h.Ended k ≡ halt_at c rest)
Answers f (Err h.NoMemory) rest o = Unit {0}

-- A result and what is then unread are what a reader answers, unless memory ran out.
-- A fault leaves unread what begins at its place.
pub record Follows {X T : Type 0} (f : X → T) (r : Result X Halt) (rest : List PlacedSym) (o : Out T) : Type 0 where
  pub is : Answers f r rest o

-- the value says t, or memory ran out
abbrev pub Makes : {X T : Type 0} → (X → T) → Result X AllocError → T → Type 0
Makes f (Ok x) t = f x ≡ t
Makes f (Err e) t = Unit {0}

-- one level less is allowed, and the symbol that opens is read; where none is left, that is the fault
abbrev pub Opens : ℕ → Result ℕ Halt → List PlacedSym → List PlacedSym → Type 0
Opens d (Ok e) ss rest = (d ≡ suc e) × (rest ≡ tail ss)
Opens d (Err e) ss rest = (d ≡ 0) × (rest ≡ ss) × (e ≡ halt_at TooDeep ss)
