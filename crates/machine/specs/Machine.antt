-- The machine: it keeps a list of tasks, each a part of the text that is still to be done, and does one action a step.
use Rattle.std.specs.Prelude.{ℕ, zero, suc, ◌+◌, Bool, true, false, cond, List, [], ◌∷◌, take, ℤ, pos, Ok, Err, Result, unsigned_abs}
use mathlib.Core.List.{tail}
use Rattle.fault.specs.declared.Trap.{Trap}
use Rattle.program.specs.Types.{Simple, Writing, Shape}
use Rattle.program.specs.Trees.{At, Sign, Operator, Junction, Expr, Designator, Actuals, Stmt, Arms, Parts, Procedure, Function, Program}
use Rattle.program.specs.Types.{fits}
use Rattle.program.specs.Trees.Expr.{constant, value, register, unary, binary, junction, apply}
use Rattle.program.specs.Trees.Designator.{whole, element, part}
use Rattle.program.specs.Trees.Actuals.{no_more, a_value, a_variable}
use Rattle.program.specs.Trees.Stmt.{skip, seq, assign, offer, if, while, repeat, loop, call}
use Rattle.program.specs.Trees.Arms.{otherwise, arm}
use Rattle.program.specs.Trees.Parts.{ends, exits}
use Rattle.program.specs.Trees.Procedure.{procedure}
use Rattle.program.specs.Trees.Function.{function}
use Rattle.program.specs.WellFormed.{last_first}
use Rattle.meaning.specs.Actions.{Way, Item, Action, Cells, Line, Event, State, Run, stop, also, outcome, truth}
use Rattle.meaning.specs.Actions.Way.{direct}
use Rattle.meaning.specs.Actions.Item.{val, ref}
use Rattle.meaning.specs.Actions.Action.{a_constant, a_take, a_read, an_index, a_sign, an_operator, a_decision, a_test, a_turn, a_store, a_write, an_entry, a_leave, a_leave_with}
use Rattle.meaning.specs.Actions.Line.{did, was_given}
use Rattle.meaning.specs.Actions.Event.{step, give, took}
use Rattle.meaning.specs.Actions.State.{ready, finished, trapped, awaiting, offering}
use Rattle.meaning.specs.Meaning.{cell_of_name, way, moved, lent, needed, whole_body}

pub data Task : Type 0 where
  -- parts of the tree
  to_eval : Expr → Task
  to_locate : (taken : Bool) → Designator → Task
  to_pass : Actuals → Task
  to_exec : Stmt → Task
  to_arms : Arms → Task
  to_turn : Parts → Stmt → Task
  -- what is left of a part
  to_take : At → Simple → Task
  to_receive : (address : ℕ) → Simple → Task
  to_sign : At → Sign → Task
  to_operate : At → Operator → Task
  to_decide : At → Junction → Expr → Task
  to_index : (taken : Bool) → At → Writing → (low high : ℤ) → Shape → Task
  to_select : (offset : ℕ) → Task
  to_store : At → Task
  to_write : At → (address : ℕ) → Task
  to_deliver : (address : ℕ) → ℤ → Task
  to_test : At → Stmt → Arms → Task
  to_while : At → (test : At) → Expr → Stmt → Task
  to_until : At → Stmt → (test : At) → Expr → Task
  to_exit : At → Stmt → Parts → Stmt → Task
  to_close : Task
  to_apply : At → Function → (actuals : ℕ) → Task
  to_call : At → Procedure → (actuals : ℕ) → Task
  to_leave : At → Task
  to_leave_with : At → (result : ℕ) → Simple → Task

-- What waits, the newest first; the depth, which is what waits and what is open (a register that is a target waits, and is no item);
-- for each open call the cells lent. A variable that is taken is held until its take, though after its last index it counts no more.
pub record Held : Type 0 where
  pub waiting : List Item
  pub depth : ℕ
  pub lents : List (List ℕ)

pub record Config : Type 0 where
  pub tasks : List Task
  pub held : Held

-- what lies on top of a list, or else a
abbrev pub first : {A : Type 0} → A → List A → A
first a [] = a
first a (x ∷ xs) = x

-- by clauses, so that a push and then a pop compute away
abbrev pub one_less : ℕ → ℕ
one_less zero = zero
one_less (suc n) = n

-- of what waits on top; the defaults make all of this total, and are never needed (see `Present`)
abbrev pub the_value : Item → ℤ
the_value (val v) = v
the_value (ref c w) = pos 0

abbrev pub the_cell : Item → ℕ
the_cell (val v) = 0
the_cell (ref c w) = c

abbrev pub the_way : Item → Way
the_way (val v) = direct
the_way (ref c w) = w

abbrev pub top : Held → Item
top h = first (val (pos 0)) h.waiting

-- something begins to wait, and waits no more
abbrev pub push : Item → Held → Held
push i h = record { waiting = i ∷ h.waiting; depth = suc h.depth; lents = h.lents }

abbrev pub pop : Held → Held
pop h = record { waiting = tail h.waiting; depth = one_less h.depth; lents = h.lents }

abbrev pub pops : ℕ → Held → Held
pops zero h = h
pops (suc n) h = pops n (pop h)

-- a statement is opened and closed; a register that is a target too
abbrev pub opens : Held → Held
opens h = record { waiting = h.waiting; depth = suc h.depth; lents = h.lents }

abbrev pub closes : Held → Held
closes h = record { waiting = h.waiting; depth = one_less h.depth; lents = h.lents }

-- a call is entered and left
abbrev pub enters : List Item → Held → Held
enters is h = record { waiting = h.waiting; depth = suc h.depth; lents = lent is ∷ h.lents }

abbrev pub leaves : Held → Held
leaves h = record { waiting = h.waiting; depth = one_less h.depth; lents = tail h.lents }

-- the cells that the var formals of the innermost call stand for
abbrev pub formals : Held → List ℕ
formals h = first [] h.lents

-- the next action, the depth that it leaves, and what is left after it, by what it gives; or what is waited for; or none
pub data Next : Type 0 where
  none : Next
  acts : At → ℕ → Action → (ℤ → Config) → Next
  awaits : (address : ℕ) → Simple → (ℤ → Config) → Next
  offers : (address : ℕ) → ℤ → Config → Next

abbrev pub then : List Task → Held → Config
then k h = record { tasks = k; held = h }

abbrev pub how_many : Actuals → ℕ
how_many no_more = 0
how_many (a_value e xs) = suc (how_many xs)
how_many (a_variable x xs) = suc (how_many xs)

-- The next action of a part, before the tasks k. Where a part can be over without an action, r is the next of k.
abbrev pub next_take : At → Simple → List Task → Held → Next
next_take at t k h = acts at h.depth (a_take (the_cell (top h)) t) (λ v. then k (push (val v) (pop h)))

abbrev pub next_select : ℕ → (Held → Next) → Held → Next
next_select o r h = r (push (ref (the_cell (top h) + o) (the_way (top h))) (pop h))

abbrev pub next_apply : Function → At → ℕ → List Task → Held → Next
next_apply (function m fs r t vs body) at n k h =
    acts (moved at m) (suc (pops n h).depth) (an_entry at.inside (last_first fs) (r ∷ vs) (take n h.waiting))
    (λ _. then (to_exec body ∷ to_leave_with (moved at m) r.cell t ∷ k) (enters (take n h.waiting) (pops n h)))

abbrev pub next_call : Procedure → At → ℕ → List Task → Held → Next
next_call (procedure m fs vs body) at n k h =
    acts (moved at m) (suc (pops n h).depth) (an_entry at.inside (last_first fs) vs (take n h.waiting))
    (λ _. then (to_exec body ∷ to_leave (moved at m) ∷ k) (enters (take n h.waiting) (pops n h)))

abbrev mutual
  pub next_eval : Expr → List Task → Held → Next
  next_eval (constant at u v) k h = acts at (suc h.depth) (a_constant v) (λ v. then k (push (val v) h))
  next_eval (value at t x) k h = next_locate true x (to_take at t ∷ k) (next_take at t k) h
  next_eval (register at t a) k h = acts at (suc h.depth) (a_read a t) (λ _. then (to_receive a t ∷ k) h)
  next_eval (unary at g e) k h = next_eval e (to_sign at g ∷ k) h
  next_eval (binary at o t a b) k h = next_eval a (to_eval b ∷ to_operate at o ∷ k) h
  next_eval (junction at j a b) k h = next_eval a (to_decide at j b ∷ k) h
  next_eval (apply at p xs) k h = next_pass xs (to_apply at p (how_many xs) ∷ k) (next_apply p at (how_many xs) k) h

  pub next_locate : (taken : Bool) → Designator → List Task → (Held → Next) → Held → Next
  next_locate taken (whole n) k r h = r (push (ref (cell_of_name (formals h) n) (way (whole n))) h)
  next_locate taken (element at x w low high s e) k r h =
      next_locate false x (to_eval e ∷ to_index taken at w low high s ∷ k) (next_eval e (to_index taken at w low high s ∷ k)) h
  next_locate taken (part at x w fs o) k r h = next_locate taken x (to_select o ∷ k) (next_select o r) h

  pub next_pass : Actuals → List Task → (Held → Next) → Held → Next
  next_pass no_more k r h = r h
  next_pass (a_value e xs) k r h = next_eval e (to_pass xs ∷ k) h
  next_pass (a_variable x xs) k r h = next_locate false x (to_pass xs ∷ k) (next_pass xs k r) h

abbrev mutual
  pub next_exec : Stmt → List Task → (Held → Next) → Held → Next
  next_exec skip k r h = r h
  next_exec (seq a b) k r h = next_exec a (to_exec b ∷ k) (next_exec b k r) h
  next_exec (assign at t x e) k r h = next_locate false x (to_eval e ∷ to_store at ∷ k) (next_eval e (to_store at ∷ k)) h
  next_exec (offer at t a e) k r h = next_eval e (to_write at a ∷ k) (opens h)
  next_exec (if xs) k r h = next_arms xs (to_close ∷ k) (λ h. r (closes h)) (opens h)
  next_exec (while at q e s) k r h =
      acts at (suc h.depth) a_turn (λ _. then (to_eval e ∷ to_while at q e s ∷ k) (opens h))
  next_exec (repeat at s q e) k r h =
      acts at (suc h.depth) a_turn (λ _. then (to_exec s ∷ to_eval e ∷ to_until at s q e ∷ k) (opens h))
  next_exec (loop at b) k r h =
      acts at (suc h.depth) a_turn (λ _. then (to_turn b (loop at b) ∷ k) (opens h))
  next_exec (call at p xs) k r h =
      next_pass xs (to_call at p (how_many xs) ∷ k) (next_call p at (how_many xs) k) h

  pub next_arms : Arms → List Task → (Held → Next) → Held → Next
  next_arms (otherwise s) k r h = next_exec s k r h
  next_arms (arm at e s xs) k r h = next_eval e (to_test at s xs ∷ k) h

-- A turn of a loop, with the loop itself. Its tasks close the loop.
abbrev pub next_turn : Parts → Stmt → List Task → (Held → Next) → Held → Next
next_turn (ends s) l k r h =
    next_exec s (to_close ∷ to_exec l ∷ k) (λ h. next_exec l k r (closes h)) h
next_turn (exits s at e s' b) l k r h =
    next_exec s (to_eval e ∷ to_exit at s' b l ∷ k) (next_eval e (to_exit at s' b l ∷ k)) h

abbrev pub next_task : Task → List Task → (Held → Next) → Held → Next
next_task (to_eval e) k r h = next_eval e k h
next_task (to_locate taken x) k r h = next_locate taken x k r h
next_task (to_pass xs) k r h = next_pass xs k r h
next_task (to_exec s) k r h = next_exec s k r h
next_task (to_arms xs) k r h = next_arms xs k r h
next_task (to_turn b l) k r h = next_turn b l k r h
next_task (to_take at t) k r h = next_take at t k h
next_task (to_receive a t) k r h = awaits a t (λ v. then k (push (val v) h))
next_task (to_sign at g) k r h = acts at h.depth (a_sign g (the_value (top h))) (λ v. then k (push (val v) (pop h)))
next_task (to_operate at o) k r h =
    acts at (pop h).depth (an_operator o (the_value (top (pop h))) (the_value (top h))) (λ v. then k (push (val v) (pop (pop h))))
next_task (to_decide at j e) k r h =
    let v = the_value (top h) in
    acts at (cond (needed j v) (pop h).depth (suc (pop h).depth)) (a_decision j v)
    (λ _. cond (needed j v) (then (to_eval e ∷ k) (pop h)) (then k (push (val v) (pop h))))
next_task (to_index taken at w low high s) k r h =
    acts at (cond taken (pop (pop h)).depth (pop h).depth) (an_index (the_cell (top (pop h))) w low high s (the_value (top h)))
    (λ c. then k (push (ref (unsigned_abs c) (the_way (top (pop h)))) (pop (pop h))))
next_task (to_select o) k r h = next_select o r h
next_task (to_store at) k r h =
    acts at (pop (pop h)).depth (a_store (the_way (top (pop h))) (the_cell (top (pop h))) (the_value (top h)))
    (λ _. then k (pop (pop h)))
next_task (to_write at a) k r h =
    let v = the_value (top h) in
    acts at (closes (pop h)).depth (a_write a v) (λ _. then (to_deliver a v ∷ k) (closes (pop h)))
next_task (to_deliver a v) k r h = offers a v (then k h)
next_task (to_test at s xs) k r h =
    let v = the_value (top h) in
    acts at (pop h).depth (a_test v) (λ _. cond (truth v) (then (to_exec s ∷ k) (pop h)) (then (to_arms xs ∷ k) (pop h)))
next_task (to_while at q e s) k r h =
    let v = the_value (top h) in
    acts q (pop h).depth (a_test v)
    (λ _. cond (truth v) (then (to_exec s ∷ to_close ∷ to_exec (while at q e s) ∷ k) (pop h)) (then k (closes (pop h))))
next_task (to_until at s q e) k r h =
    let v = the_value (top h) in
    acts q (pop h).depth (a_test v)
    (λ _. cond (truth v) (then k (closes (pop h))) (then (to_exec (repeat at s q e) ∷ k) (closes (pop h))))
next_task (to_exit at s b l) k r h =
    let v = the_value (top h) in
    acts at (pop h).depth (a_test v)
    (λ _. cond (truth v) (then (to_exec s ∷ to_close ∷ k) (pop h)) (then (to_turn b l ∷ k) (pop h)))
next_task to_close k r h = r (closes h)
next_task (to_apply at p n) k r h = next_apply p at n k h
next_task (to_call at p n) k r h = next_call p at n k h
next_task (to_leave at) k r h = acts at (leaves h).depth a_leave (λ _. then k (leaves h))
next_task (to_leave_with at result t) k r h =
    acts at (suc (leaves h).depth) (a_leave_with result t) (λ v. then k (push (val v) (leaves h)))

-- the next action of a list of tasks
abbrev pub next_of : List Task → Held → Next
next_of [] h = none
next_of (t ∷ k) h = next_task t k (next_of k) h

abbrev pub next : Config → Next
next c = next_of c.tasks c.held

abbrev pub state_of : Next → State
state_of none = finished
state_of (acts at d a c) = ready
state_of (awaits a t c) = awaiting a t
state_of (offers a v c) = offering a v

-- what a call does
pub data Answer : Type 0 where
  refused : Answer
  went_on : Line → Config → Answer
  was_taken : Config → Answer
  fell : Line → Trap → (place : ℕ) → Answer

abbrev pub acted : At → ℕ → Action → (ℤ → Config) → Cells → Result ℤ Trap → Answer
acted at d a c σ (Ok v) = went_on (did at d a σ (Ok v)) (c v)
acted at d a c σ (Err p) = fell (did at d a σ (Err p)) p at.place

abbrev pub answer : Next → Event → Answer
answer none e = refused
answer (acts at d a c) (step σ) = acted at d a c σ (outcome d a σ)
answer (acts at d a c) (give v) = refused
answer (acts at d a c) took = refused
answer (awaits a t c) (step σ) = refused
answer (awaits a t c) (give v) = cond (fits t v) (went_on (was_given a t v) (c v)) refused
answer (awaits a t c) took = refused
answer (offers a v c) (step σ) = refused
answer (offers a v c) (give w) = refused
answer (offers a v c) took = was_taken c

abbrev pub after : (Config → Run) → Config → Answer → Run
after k c refused = k c
after k c (went_on l c') = also l (k c')
after k c (was_taken c') = k c'
after k c (fell l t p) = also l (stop (trapped t p))

-- a run of the machine, call by call
abbrev pub run : Config → List Event → Run
run c [] = stop (state_of (next c))
run c (e ∷ es) = after (λ c. run c es) c (answer (next c) e)

abbrev pub start : Program → Config
start P = then (to_exec (whole_body P.bodies) ∷ []) (record { waiting = []; depth = 0; lents = [] })

-- where the machine is after some calls
pub data Now : Type 0 where
  there : Config → Now
  fallen : Trap → (place : ℕ) → Now

abbrev pub moved_on : (Config → Now) → Config → Answer → Now
moved_on k c refused = k c
moved_on k c (went_on l c') = k c'
moved_on k c (was_taken c') = k c'
moved_on k c (fell l t p) = fallen t p

abbrev pub arrives : Config → List Event → Now
arrives c [] = there c
arrives c (e ∷ es) = moved_on (λ c. arrives c es) c (answer (next c) e)

-- the calls that the machine does not refuse
abbrev pub kept : Event → (Config → List Event) → Config → Answer → List Event
kept e k c refused = k c
kept e k c (went_on l c') = e ∷ k c'
kept e k c (was_taken c') = e ∷ k c'
kept e k c (fell l t p) = e ∷ []

abbrev pub not_refused : Config → List Event → List Event
not_refused c [] = []
not_refused c (e ∷ es) = kept e (λ c. not_refused c es) c (answer (next c) e)
