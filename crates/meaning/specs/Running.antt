-- A run with nobody else at the store, told as a host would see it: for worked examples.
use Rattle.std.specs.Prelude.{ℕ, zero, suc, true, false, List, [], ◌∷◌, ◌++◌, length, ℤ}
use Rattle.program.specs.Types.{Simple, Shape, Writing}
use Rattle.program.specs.Types.Shape.{simple}
use Rattle.program.specs.Trees.{At, Variable, Program}
use Rattle.meaning.specs.Actions.{Cells, Action, Line, Event, State, left, started}
use Rattle.meaning.specs.Actions.Action.{a_constant, a_take, a_read, an_index, a_sign, an_operator, a_decision, a_test, a_turn, a_store, a_write, an_entry, a_leave, a_leave_with}
use Rattle.meaning.specs.Actions.Line.{did, was_given}
use Rattle.meaning.specs.Actions.Event.{step, give, took}
use Rattle.meaning.specs.Actions.State.{ready, finished, trapped, awaiting, offering}
use Rattle.meaning.specs.Meaning.{meaning}

-- the kinds of actions
pub data Kind : Type 0 where
  take index op test store entry leave turn : Kind

abbrev pub kind : Action → Kind
kind (a_constant v) = take
kind (a_take c t) = take
kind (a_read a t) = take
kind (an_index base w low high s v) = index
kind (a_sign g v) = op
kind (an_operator o x y) = op
kind (a_decision j v) = op
kind (a_test v) = test
kind a_turn = turn
kind (a_store w c v) = store
kind (a_write a v) = store
kind (an_entry m fs zs is) = entry
kind a_leave = leave
kind (a_leave_with r t) = leave

-- the cells after a log that began with σ
abbrev pub cells_after : Cells → List Line → Cells
cells_after σ [] = σ
cells_after σ (did at d a ρ r ∷ l) = cells_after (left a r ρ) l
cells_after σ (was_given a t v ∷ l) = cells_after σ l

-- who stands at the registers: nobody, or one who gives these values in turn and takes every offer
pub data Beside : Type 0 where
  nobody : Beside
  somebody : List ℤ → Beside

-- the next call, by the state after the calls so far: at most n steps more
abbrev pub next_call : (ℕ → Beside → List Event → List Event) → Cells → ℕ → Beside → List Event → List Line → State → List Event
next_call k σ zero b es l ready = es
next_call k σ (suc n) b es l ready = k n b (es ++ step (cells_after σ l) ∷ [])
next_call k σ n b es l finished = es
next_call k σ n b es l (trapped t p) = es
next_call k σ n nobody es l (awaiting a t) = es
next_call k σ n (somebody []) es l (awaiting a t) = es
next_call k σ n (somebody (v ∷ vs)) es l (awaiting a t) = k n (somebody vs) (es ++ give v ∷ [])
next_call k σ n nobody es l (offering a v) = es
next_call k σ n (somebody vs) es l (offering a v) = k n (somebody vs) (es ++ took ∷ [])

-- at most c calls
abbrev pub calls : ℕ → Program → Cells → ℕ → Beside → List Event → List Event
calls zero P σ n b es = es
calls (suc c) P σ n b es = next_call (calls c P σ) σ n b es (meaning P es).log (meaning P es).state

-- each action by its kind, its place and its depth
abbrev pub actions_told : List Line → List (Kind × ℕ × ℕ)
actions_told [] = []
actions_told (did at d a σ r ∷ l) = (kind a, at.place, d) ∷ actions_told l
actions_told (was_given a t v ∷ l) = actions_told l

-- its actions, its state after them, and its cells
abbrev pub Told : Type 0
Told = List (Kind × ℕ × ℕ) × State × Cells

-- a run of at most n steps, over a store that has just the program's cells
abbrev pub tells : Beside → ℕ → Program → Told
tells b n P =
    let σ = started P [] in
    let r = meaning P (calls 200 P σ n b []) in
    (actions_told r.log, r.state, cells_after σ r.log)

-- how many actions, the state, the cells
abbrev pub line_of : Told → ℕ × State × Cells
line_of t = (length t.0, t.1, t.2)

-- in short, for the examples
abbrev pub at : ℕ → ℕ → At
at p m = record { place = p; inside = m }

abbrev pub variable : List ℕ → Shape → ℕ → ℕ → Variable
variable name s c m = record { name = name; shape = s; cell = c; inside = m; fixed = false }

abbrev pub const_formal : List ℕ → Simple → ℕ → ℕ → Variable
const_formal name t c m = record { name = name; shape = simple t; cell = c; inside = m; fixed = true }

abbrev pub writing : ℕ → ℕ → Writing
writing n m = record { number = n; inside = m }
