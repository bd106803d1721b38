-- The law of hiding: who changes a cell.
use Prim.{Unit, ⊥, ¬◌}
use Rattle.std.specs.Prelude.{◌≡◌, ℕ, T, ◌⊎◌, List, [], ◌∷◌, length, drop, ℤ, pos, Result, slice_index_or}
use mathlib.Core.List.{tail}
use Rattle.fault.specs.declared.Trap.{Trap}
use Rattle.program.specs.Types.{Writing, Shape}
use Rattle.program.specs.Trees.{At, Variable, Formal, Program}
use Rattle.program.specs.Trees.Formal.{by_const, by_var}
use Rattle.program.specs.Cells.{Cell, CellAt, Mine, Changeable, Part, table, part_of}
use Rattle.program.specs.WellFormed.{WellFormed}
use Rattle.meaning.specs.Actions.{Item, Action, Cells, Line, Event, left}
use Rattle.meaning.specs.Actions.Way.{direct, onward}
use Rattle.meaning.specs.Actions.Item.{val, ref}
use Rattle.meaning.specs.Actions.Action.{a_constant, a_take, a_read, an_index, a_sign, an_operator, a_decision, a_test, a_turn, a_store, a_write, an_entry, a_leave, a_leave_with}
use Rattle.meaning.specs.Actions.Line.{did, was_given}
use Rattle.meaning.specs.Meaning.{meaning}

-- a call that is open: the module in which it stands, its actuals and the formals, both the last first
pub record Open : Type 0 where
  pub stands : ℕ
  pub items : List Item
  pub for : List Formal

-- the calls open after an action, the innermost first
abbrev pub opened : List Open → Action → List Open
opened o (a_constant v) = o
opened o (a_take c t) = o
opened o (a_read a t) = o
opened o (an_index base w low high s v) = o
opened o (a_sign g v) = o
opened o (an_operator p x y) = o
opened o (a_decision j v) = o
opened o (a_test v) = o
opened o a_turn = o
opened o (a_store w c v) = o
opened o (a_write a v) = o
opened o (an_entry m fs zs is) = record { stands = m; items = is; for = fs } ∷ o
opened o a_leave = tail o
opened o (a_leave_with r t) = tail o

-- One of these actuals gives the cell c to a var formal: by the variable's own name, in a call that stands in the text of the module that
-- declares it, or by a var formal that X speaks of.
abbrev pub LentBy : Program → ℕ → Type 0 → ℕ → List Item → List Formal → Type 0
LentBy P c X stands [] fs = ⊥
LentBy P c X stands (val v ∷ is) [] = ⊥
LentBy P c X stands (val v ∷ is) (f ∷ fs) = LentBy P c X stands is fs
LentBy P c X stands (ref b w ∷ is) [] = ⊥
LentBy P c X stands (ref b w ∷ is) (by_const x t ∷ fs) = LentBy P c X stands is fs
LentBy P c X stands (ref b direct ∷ is) (by_var s ∷ fs) = (Part c b s × Changeable P stands c) ⊎ LentBy P c X stands is fs
LentBy P c X stands (ref b onward ∷ is) (by_var s ∷ fs) = (Part c b s × X) ⊎ LentBy P c X stands is fs

-- the innermost open call lent the cell c, or passed on a cell so lent by the call around it
abbrev pub Lent : Program → ℕ → List Open → Type 0
Lent P c [] = ⊥
Lent P c (l ∷ o) = LentBy P c (Lent P c o) l.stands l.items l.for

-- a store by the name of a var formal
pub data ByFormal : Action → Type 0 where
  store_onward : {c : ℕ} {v : ℤ} → ByFormal (a_store onward c v)

-- an entry
pub data Entered : Action → Type 0 where
  by_entry : {m : ℕ} {fs : List Formal} {zs : List Variable} {is : List Item} → Entered (an_entry m fs zs is)

-- What an action at this place may do to the cells, under these open calls.
pub record Minds (P : Program) (o : List Open) (at : At) (a : Action) (r : Result ℤ Trap) (σ : Cells) : Type 0 where
  -- it changes a cell only in the text of the module that declares it, or through a var formal to which that text passed it, directly or onward
  pub changes : (c : ℕ) → ¬ (slice_index_or (left a r σ) c (pos 0) ≡ slice_index_or σ c (pos 0)) → Mine P at.inside c ⊎ (ByFormal a × Lent P c o)
  -- a const formal's cell changes only at an entry
  pub const_kept : (c : ℕ) (x : Cell) → CellAt P c x → T x.fixed → ¬ (slice_index_or (left a r σ) c (pos 0) ≡ slice_index_or σ c (pos 0)) → Entered a
  -- the count and the cells beyond the program's own stay as they are
  pub count : length (left a r σ) ≡ length σ
  pub beyond : drop (length (table P)) (left a r σ) ≡ drop (length (table P)) σ
  -- an array is indexed only in the text of the module where its type is written
  pub opens : (base : ℕ) (w : Writing) (low high : ℤ) (s : Shape) (v : ℤ) → a ≡ an_index base w low high s v → T (part_of P at.inside w.inside)

abbrev pub Hides : Program → List Open → List Line → Type 0
Hides P o [] = Unit {0}
Hides P o (did at d a σ r ∷ l) = Minds P o at a r σ × Hides P (opened o a) l
Hides P o (was_given a t v ∷ l) = Hides P o l

-- For every well-formed program and every sequence of calls, whatever the host does to the cells between them.
abbrev pub ModulesHide : Type 0
ModulesHide = (P : Program) → WellFormed P → (es : List Event) → Hides P [] (meaning P es).log
