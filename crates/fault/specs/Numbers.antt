-- The numbers of all that can go wrong, in one place: what a host, an author or a driver is told.
use Rattle.std.specs.Prelude.{ℕ, List, ◌++◌, codes, decimal}
use Rattle.fault.specs.declared.Layer.{Layer}
use Rattle.fault.specs.declared.Layer.TheVariants.{Reader, Checker}
use Rattle.fault.specs.declared.Cause.{Cause}
use Rattle.fault.specs.declared.Cause.TheVariants.{TooLong, NoSymbol, Syntax, TooDeep, UnknownName, NameTwice, DefineList, WrongKind, NotChangeable, Closed, TooMany}
use Rattle.fault.specs.declared.Fault.{Fault}
use Rattle.fault.specs.declared.LoadError.{LoadError}
use Rattle.fault.specs.declared.LoadError.TheVariants.{Text, NoMemory}
use Rattle.fault.specs.declared.Trap.{Trap}
use Rattle.fault.specs.declared.Trap.TheVariants.{Index, Divisor, Beyond, Depth, Foreign}
use Rattle.fault.specs.declared.StoreError.{StoreError}
use Rattle.fault.specs.declared.StoreError.TheVariants.{NoCell}

-- 1 to 11: what is wrong with a text
abbrev pub cause_number : Cause → ℕ
cause_number TooLong = 1
cause_number NoSymbol = 2
cause_number Syntax = 3
cause_number TooDeep = 4
cause_number UnknownName = 5
cause_number NameTwice = 6
cause_number DefineList = 7
cause_number WrongKind = 8
cause_number NotChangeable = 9
cause_number Closed = 10
cause_number TooMany = 11

-- the reader judges symbols and grammar, the checker all else
abbrev pub cause_layer : Cause → Layer
cause_layer TooLong = Reader
cause_layer NoSymbol = Reader
cause_layer Syntax = Reader
cause_layer TooDeep = Reader
cause_layer UnknownName = Checker
cause_layer NameTwice = Checker
cause_layer DefineList = Checker
cause_layer WrongKind = Checker
cause_layer NotChangeable = Checker
cause_layer Closed = Checker
cause_layer TooMany = Checker

abbrev pub layer_name : Layer → List ℕ
layer_name Reader = codes "reader"
layer_name Checker = codes "checker"

-- what a fault tells
pub record Told : Type 0 where
  pub number : ℕ
  pub layer : Layer
  pub place : ℕ

abbrev pub told : Fault → Told
told f = record { number = cause_number f.cause; layer = cause_layer f.cause; place = f.place }

-- the line that tells it: the word fault, number, layer and place, with blanks between
abbrev pub fault_line : Fault → List ℕ
fault_line f = codes "fault " ++ (decimal (told f).number ++ (codes " " ++ (layer_name (told f).layer ++ (codes " " ++ decimal (told f).place))))

-- the line that tells why a text could not be loaded
abbrev pub load_error_line : LoadError → List ℕ
load_error_line (Text f) = fault_line f
load_error_line NoMemory = codes "no memory"

-- a fault of this cause at this place
abbrev pub fault_at : Cause → ℕ → Fault
fault_at c p = record { cause = c; place = p }

-- 31 to 35: why an action of a running program is not done
abbrev pub trap_number : Trap → ℕ
trap_number Index = 31
trap_number Divisor = 32
trap_number Beyond = 33
trap_number Depth = 34
trap_number Foreign = 35

-- 41: why a store refuses
abbrev pub store_error_number : StoreError → ℕ
store_error_number NoCell = 41
