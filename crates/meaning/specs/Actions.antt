-- An action: what is done, where, and what comes of it.
use Rattle.std.specs.Prelude.{ℕ, zero, suc, Bool, true, false, cond, not, ◌&&◌, List, [], ◌∷◌, ◌++◌, length, drop, replicate, ℤ, pos, Ok, Err, Result, int_le, int_lt, nat_le, slice_index_or, slice_set}
use Rattle.fault.specs.declared.Trap.{Trap}
use Rattle.fault.specs.declared.Trap.TheVariants.{Index, Depth, Foreign}
use Rattle.integer.specs.Integers.{sum, difference, product, negated, truncated, quotient, remainder}
use Rattle.program.specs.Types.{Simple, Writing, Shape, size, within, fits, element_cell}
use Rattle.program.specs.Trees.{At, Variable, Formal, Sign, Operator, Junction, Program}
use Rattle.program.specs.Trees.Sign.{plus_sign, minus_sign, not_sign}
use Rattle.program.specs.Trees.Operator.{plus, minus, times, over, div, modulo, xor, eq, ne, lt, le, gt, ge}
use Rattle.program.specs.Trees.Formal.{by_const, by_var}
use Rattle.program.specs.Cells.{table}

-- the cells of a store, as many as its count; a program's own are the first ones
abbrev pub Cells : Type 0
Cells = List ℤ

-- how a variable was named: by its own name, or by a var formal that stands for it
pub data Way : Type 0 where
  direct onward : Way

-- what waits: a value, or a variable, by its first cell
pub data Item : Type 0 where
  val : ℤ → Item
  ref : (cell : ℕ) → Way → Item

-- what an action does, with all its values
pub data Action : Type 0 where
  a_constant : ℤ → Action
  a_take : (cell : ℕ) → Simple → Action
  a_read : (address : ℕ) → Simple → Action
  an_index : (base : ℕ) → Writing → (low high : ℤ) → Shape → (index : ℤ) → Action
  a_sign : Sign → ℤ → Action
  an_operator : Operator → (x y : ℤ) → Action
  -- of `and` and `or`, after the left operand
  a_decision : Junction → ℤ → Action
  a_test : ℤ → Action
  a_turn : Action
  a_store : Way → (cell : ℕ) → ℤ → Action
  a_write : (address : ℕ) → ℤ → Action
  -- the module in which the call stands, the formals and the actuals, both the last first, and what becomes 0
  an_entry : (stands : ℕ) → List Formal → (zeroed : List Variable) → List Item → Action
  a_leave : Action
  a_leave_with : (result : ℕ) → Simple → Action

abbrev pub bit : Bool → ℤ
bit b = cond b (pos 1) (pos 0)

abbrev pub truth : ℤ → Bool
truth v = int_le (pos 1) v

abbrev pub eq_z : ℤ → ℤ → Bool
eq_z x y = int_le x y && int_le y x

abbrev pub signed : Sign → ℤ → Result ℤ Trap
signed plus_sign v = Ok v
signed minus_sign v = negated v
signed not_sign v = Ok (bit (not (truth v)))

abbrev pub operated : Operator → ℤ → ℤ → Result ℤ Trap
operated plus x y = sum x y
operated minus x y = difference x y
operated times x y = product x y
operated over x y = truncated x y
operated div x y = quotient x y
operated modulo x y = remainder x y
operated xor x y = Ok (bit (not (eq_z x y)))
operated eq x y = Ok (bit (eq_z x y))
operated ne x y = Ok (bit (not (eq_z x y)))
operated lt x y = Ok (bit (int_lt x y))
operated le x y = Ok (bit (int_le x y))
operated gt x y = Ok (bit (int_lt y x))
operated ge x y = Ok (bit (int_le y x))

-- an index gives the first cell of its element
abbrev pub indexed : ℕ → (low high : ℤ) → Shape → ℤ → Result ℤ Trap
indexed base low high s v = cond (within low high v) (Ok (pos (element_cell base low s v))) (Err Index)

-- what an action gives, or the trap that lies in what it does
abbrev pub gives : Action → Cells → Result ℤ Trap
gives (a_constant v) σ = Ok v
gives (a_take c t) σ = Ok (slice_index_or σ c (pos 0))
gives (a_read a t) σ = Ok (pos 0)
gives (an_index base w low high s v) σ = indexed base low high s v
gives (a_sign g v) σ = signed g v
gives (an_operator o x y) σ = operated o x y
gives (a_decision j v) σ = Ok v
gives (a_test v) σ = Ok v
gives a_turn σ = Ok (pos 0)
gives (a_store w c v) σ = Ok v
gives (a_write a v) σ = Ok v
gives (an_entry m fs zs is) σ = Ok (pos 0)
gives a_leave σ = Ok (pos 0)
gives (a_leave_with r t) σ = Ok (slice_index_or σ r (pos 0))

-- a cell that it takes holds a value of its type
abbrev pub finds : Action → Cells → Bool
finds (a_constant v) σ = true
finds (a_take c t) σ = fits t (slice_index_or σ c (pos 0))
finds (a_read a t) σ = true
finds (an_index base w low high s v) σ = true
finds (a_sign g v) σ = true
finds (an_operator o x y) σ = true
finds (a_decision j v) σ = true
finds (a_test v) σ = true
finds a_turn σ = true
finds (a_store w c v) σ = true
finds (a_write a v) σ = true
finds (an_entry m fs zs is) σ = true
finds a_leave σ = true
finds (a_leave_with r t) σ = fits t (slice_index_or σ r (pos 0))

-- the greatest depth
abbrev pub deepest : ℕ
deepest = 400

-- of several traps the one with the smallest number
abbrev pub first_trap : Result ℤ Trap → (deep_enough found : Bool) → Result ℤ Trap
first_trap (Err t) d f = Err t
first_trap (Ok v) false f = Err Depth
first_trap (Ok v) true false = Err Foreign
first_trap (Ok v) true true = Ok v

-- what comes of an action that leaves the depth d
unfoldable pub outcome : ℕ → Action → Cells → Result ℤ Trap
outcome d a σ = first_trap (gives a σ) (nat_le d deepest) (finds a σ)

-- n cells from c on become 0
abbrev pub cleared : ℕ → ℕ → Cells → Cells
cleared c zero σ = σ
cleared c (suc n) σ = slice_set (cleared (suc c) n σ) c (pos 0)

abbrev pub zeroed : List Variable → Cells → Cells
zeroed [] σ = σ
zeroed (x ∷ xs) σ = cleared x.cell (size x.shape) (zeroed xs σ)

-- each const formal gets its actual's value
abbrev pub placed : List Formal → List Item → Cells → Cells
placed [] is σ = σ
placed (by_const x t ∷ fs) [] σ = σ
placed (by_const x t ∷ fs) (val v ∷ is) σ = slice_set (placed fs is σ) x.cell v
placed (by_const x t ∷ fs) (ref b w ∷ is) σ = placed fs is σ
placed (by_var s ∷ fs) [] σ = σ
placed (by_var s ∷ fs) (i ∷ is) σ = placed fs is σ

-- what an action makes of the cells
abbrev pub written : Action → Cells → Cells
written (a_constant v) σ = σ
written (a_take c t) σ = σ
written (a_read a t) σ = σ
written (an_index base w low high s v) σ = σ
written (a_sign g v) σ = σ
written (an_operator o x y) σ = σ
written (a_decision j v) σ = σ
written (a_test v) σ = σ
written a_turn σ = σ
written (a_store w c v) σ = slice_set σ c v
written (a_write a v) σ = σ
written (an_entry m fs zs is) σ = placed fs is (zeroed zs σ)
written a_leave σ = σ
written (a_leave_with r t) σ = σ

-- the cells after it: a trapped action changes none
abbrev pub left : Action → Result ℤ Trap → Cells → Cells
left a (Ok v) σ = written a σ
left a (Err t) σ = σ

-- a start sets the program's cells to 0, and leaves the others
abbrev pub started : Program → Cells → Cells
started P σ = replicate (length (table P)) (pos 0) ++ drop (length (table P)) σ

-- one line of the log: an action with its depth, the cells found and what came of it, or a value given for a register
pub data Line : Type 0 where
  did : At → (depth : ℕ) → Action → Cells → Result ℤ Trap → Line
  was_given : (address : ℕ) → Simple → ℤ → Line

-- a call on a started run; a step has the cells that it finds
pub data Event : Type 0 where
  step : Cells → Event
  give : ℤ → Event
  took : Event

pub data State : Type 0 where
  ready finished : State
  trapped : Trap → (place : ℕ) → State
  awaiting : (address : ℕ) → Simple → State
  offering : (address : ℕ) → ℤ → State

-- what was done, and the state after it
pub record Run : Type 0 where
  pub log : List Line
  pub state : State

-- what happens from somewhere on, by the calls to come
abbrev pub Behaviour : Type 0
Behaviour = List Event → Run

abbrev pub stop : State → Run
stop s = record { log = []; state = s }

abbrev pub also : Line → Run → Run
also e r = record { log = e ∷ r.log; state = r.state }
