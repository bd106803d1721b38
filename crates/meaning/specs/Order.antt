-- The law of order: what is done follows from the program and the accepted calls since the start, from nothing else.
use Rattle.std.specs.Prelude.{◌≡◌, ℕ, suc, Bool, true, false, not, T, List, [], ◌∷◌, ◌++◌, ℤ}
use Rattle.program.specs.Types.{fits}
use Rattle.program.specs.Trees.{At, Program}
use Rattle.meaning.specs.Actions.{Action, Cells, Line, Event, State, outcome}
use Rattle.meaning.specs.Actions.Line.{did, was_given}
use Rattle.meaning.specs.Actions.Event.{step, give, took}
use Rattle.meaning.specs.Actions.State.{ready, finished, trapped, awaiting, offering}
use Rattle.meaning.specs.Meaning.{meaning}

-- a step is accepted by a run that is ready, a value of the register's type by one that awaits it, a took by one that offers
abbrev pub accepts : State → Event → Bool
accepts ready (step σ) = true
accepts ready (give v) = false
accepts ready took = false
accepts finished e = false
accepts (trapped t p) e = false
accepts (awaiting a t) (step σ) = false
accepts (awaiting a t) (give v) = fits t v
accepts (awaiting a t) took = false
accepts (offering a v) (step σ) = false
accepts (offering a v) (give w) = false
accepts (offering a v) took = true

-- the accepted ones among the calls that follow `before`
abbrev pub keep_if : Bool → Event → List Event → List Event → List Event
keep_if true e kept passed = e ∷ kept
keep_if false e kept passed = passed

abbrev pub accepted_after : Program → List Event → List Event → List Event
accepted_after P before [] = []
accepted_after P before (e ∷ es) =
    keep_if (accepts (meaning P before).state e) e (accepted_after P (before ++ e ∷ []) es) (accepted_after P before es)

abbrev pub accepted_calls : Program → List Event → List Event
accepted_calls P es = accepted_after P [] es

abbrev pub actions : List Line → ℕ
actions [] = 0
actions (did at d a σ r ∷ l) = suc (actions l)
actions (was_given a t v ∷ l) = actions l

abbrev pub steps_in : List Event → ℕ
steps_in [] = 0
steps_in (step σ ∷ es) = suc (steps_in es)
steps_in (give v ∷ es) = steps_in es
steps_in (took ∷ es) = steps_in es

-- What the next call does, by the state. Only a step that is accepted does an action, and does one; which it is, with its values, is
-- settled before it. A run is finished or trapped exactly where no call does anything any more.
abbrev pub Answers : Program → List Event → State → Type 0
Answers P es ready =
    ((at : At) × (d : ℕ) × (a : Action) × ((σ : Cells) → (meaning P (es ++ step σ ∷ [])).log ≡ (meaning P es).log ++ did at d a σ (outcome d a σ) ∷ []))
    × ((v : ℤ) → meaning P (es ++ give v ∷ []) ≡ meaning P es)
    × (meaning P (es ++ took ∷ []) ≡ meaning P es)
Answers P es finished = (fs : List Event) → meaning P (es ++ fs) ≡ meaning P es
Answers P es (trapped t p) = (fs : List Event) → meaning P (es ++ fs) ≡ meaning P es
Answers P es (awaiting a t) =
    ((σ : Cells) → meaning P (es ++ step σ ∷ []) ≡ meaning P es)
    × ((v : ℤ) → T (fits t v) → (meaning P (es ++ give v ∷ [])).log ≡ (meaning P es).log ++ was_given a t v ∷ [])
    × ((v : ℤ) → T (not (fits t v)) → meaning P (es ++ give v ∷ []) ≡ meaning P es)
    × (meaning P (es ++ took ∷ []) ≡ meaning P es)
Answers P es (offering a v) =
    ((σ : Cells) → meaning P (es ++ step σ ∷ []) ≡ meaning P es)
    × ((w : ℤ) → meaning P (es ++ give w ∷ []) ≡ meaning P es)
    × ((meaning P (es ++ took ∷ [])).log ≡ (meaning P es).log)

-- For every program and every sequence of calls:
pub record Ordered (P : Program) (es : List Event) : Type 0 where
  -- refused calls count for nothing
  pub accepted_alone : meaning P es ≡ meaning P (accepted_calls P es)
  -- there are as many actions as accepted steps
  pub one_a_step : actions (meaning P es).log ≡ steps_in (accepted_calls P es)
  -- what has been done stays: the n-th action is the same after all further calls
  pub stays : (fs : List Event) → (l : List Line) × ((meaning P (es ++ fs)).log ≡ (meaning P es).log ++ l)
  -- and the state tells what each further call does
  pub answers : Answers P es (meaning P es).state

abbrev pub InOrder : Type 0
InOrder = (P : Program) (es : List Event) → Ordered P es
