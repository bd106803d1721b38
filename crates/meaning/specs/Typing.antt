-- The law of types: if nobody else writes, the cells hold values of their types all along, and an action traps exactly where it has a cause.
use Prim.{Unit, ¬◌}
use Rattle.std.specs.Prelude.{◌≡◌, ℕ, ◌<◌, ◌≤◌, T, List, [], ◌∷◌, length, take, ℤ, pos, ◌+ℤ◌, ◌-ℤ◌, ◌*ℤ◌, ◌<ℤ◌, Err, Result, slice_index_or, unsigned_abs}
use Rattle.fault.specs.declared.Trap.{Trap}
use Rattle.fault.specs.Numbers.{trap_number}
use Rattle.fault.specs.declared.Trap.TheVariants.{Index, Divisor, Beyond, Depth, Foreign}
use Rattle.integer.specs.Integers.{greatest}
use Rattle.program.specs.Types.{Simple, Writing, Shape, fits, within}
use Rattle.program.specs.Trees.{Variable, Formal, Program}
use Rattle.program.specs.Trees.Operator.{plus, minus, times, over, div, modulo}
use Rattle.program.specs.Cells.{Cell, CellAt, table}
use Rattle.program.specs.WellFormed.{WellFormed}
use Rattle.meaning.specs.Actions.{Item, Action, Cells, Line, Event, left, started, deepest}
use Rattle.meaning.specs.Actions.Action.{a_constant, a_take, a_read, an_index, an_operator, a_turn, an_entry}
use Rattle.meaning.specs.Actions.Line.{did, was_given}
use Rattle.meaning.specs.Meaning.{meaning}

-- the program's own cells are the same
abbrev pub SameOwn : Program → Cells → Cells → Type 0
SameOwn P ρ σ = take (length (table P)) ρ ≡ take (length (table P)) σ

-- Nobody else writes the program's cells: each action finds them as the one before left them. Of the other cells nothing is asked.
abbrev pub Undisturbed : Program → Cells → List Line → Type 0
Undisturbed P σ [] = Unit {0}
Undisturbed P σ (did at d a ρ r ∷ l) = SameOwn P ρ σ × Undisturbed P (left a r ρ) l
Undisturbed P σ (was_given a t v ∷ l) = Undisturbed P σ l

-- every cell of the program holds a value of its type
abbrev pub Typed : Program → Cells → Type 0
Typed P σ = (c : ℕ) (x : Cell) → CellAt P c x → T (fits x.type (slice_index_or σ c (pos 0)))

-- the actions after which more is open or waits than before: only they can be too deep
pub data Deepens : Action → Type 0 where
  constant_taken : {v : ℤ} → Deepens (a_constant v)
  variable_taken : {c : ℕ} {t : Simple} → Deepens (a_take c t)
  register_read : {a : ℕ} {t : Simple} → Deepens (a_read a t)
  turn_begun : Deepens a_turn
  call_entered : {m : ℕ} {fs : List Formal} {zs : List Variable} {is : List Item} → Deepens (an_entry m fs zs is)

-- Why an action that leaves the depth d traps. No quotient, remainder or negation is beyond the integers, and no cell is foreign to its type.
pub data Causes : Trap → ℕ → Action → Type 0 where
  out_of_bounds : {d base : ℕ} {w : Writing} {low high v : ℤ} {s : Shape} → ¬ (T (within low high v)) → Causes Index d (an_index base w low high s v)
  divisor_0 : {d : ℕ} {x y : ℤ} → y ≡ pos 0 → Causes Divisor d (an_operator over x y)
  div_below_1 : {d : ℕ} {x y : ℤ} → y <ℤ pos 1 → Causes Divisor d (an_operator div x y)
  mod_below_1 : {d : ℕ} {x y : ℤ} → y <ℤ pos 1 → Causes Divisor d (an_operator modulo x y)
  sum_beyond : {d : ℕ} {x y : ℤ} → greatest < unsigned_abs (x +ℤ y) → Causes Beyond d (an_operator plus x y)
  difference_beyond : {d : ℕ} {x y : ℤ} → greatest < unsigned_abs (x -ℤ y) → Causes Beyond d (an_operator minus x y)
  product_beyond : {d : ℕ} {x y : ℤ} → greatest < unsigned_abs (x *ℤ y) → Causes Beyond d (an_operator times x y)
  too_deep : {d : ℕ} {a : Action} → Deepens a → deepest < d → Causes Depth d a

-- A trap has its cause; where there is a cause there is a trap, with that number or a smaller one; and none is for a foreign cell.
pub record TrapsExactly (d : ℕ) (a : Action) (r : Result ℤ Trap) : Type 0 where
  pub caused : (t : Trap) → r ≡ Err t → Causes t d a
  pub traps : (t : Trap) → Causes t d a → (u : Trap) × (r ≡ Err u) × (trap_number u ≤ trap_number t)
  pub never_foreign : ¬ (r ≡ Err Foreign)

-- all along: before each action, and after the last one
abbrev pub StaysTyped : Program → Cells → List Line → Type 0
StaysTyped P σ [] = Typed P σ
StaysTyped P σ (did at d a ρ r ∷ l) = Typed P σ × Typed P ρ × TrapsExactly d a r × StaysTyped P (left a r ρ) l
StaysTyped P σ (was_given a t v ∷ l) = StaysTyped P σ l

-- For every well-formed program, every sequence of calls, and every store at the start.
abbrev pub TypesKept : Type 0
TypesKept =
    (P : Program) → WellFormed P
    → (es : List Event) (σ : Cells) → Undisturbed P (started P σ) (meaning P es).log → StaysTyped P (started P σ) (meaning P es).log
