-- The law of depth: the depth is what waits, the calls open, and the statements open in all their bodies.
use Rattle.std.specs.Prelude.{◌≡◌, ℕ, suc, ◌+◌, ◌⊎◌, List, [], ◌∷◌, length, ℤ}
use Rattle.meaning.specs.Actions.{Action}
use Rattle.meaning.specs.Actions.Action.{a_constant, a_take, a_read, an_index, a_sign, an_operator, a_decision, a_test, a_turn, a_store, a_write, an_entry, a_leave, a_leave_with}
use Rattle.machine.specs.Machine.{Task, Config, Next, next}
use Rattle.machine.specs.Machine.Task.{to_eval, to_locate, to_pass, to_exec, to_arms, to_turn, to_take, to_receive, to_sign, to_operate, to_decide, to_index, to_select, to_store, to_write, to_deliver, to_test, to_while, to_until, to_exit, to_close, to_apply, to_call, to_leave, to_leave_with}
use Rattle.machine.specs.Machine.Next.{none, acts, awaits, offers}
use Rattle.machine.specs.Opened.{Covered}
use Rattle.machine.specs.Present.{Present}

-- a task that ends a statement: an if, while, repeat or loop, or an assignment to a register, which waits as any target
abbrev pub closer : Task → ℕ
closer (to_eval e) = 0
closer (to_locate taken x) = 0
closer (to_pass xs) = 0
closer (to_exec s) = 0
closer (to_arms xs) = 0
closer (to_turn b l) = 1
closer (to_take at t) = 0
closer (to_receive a t) = 0
closer (to_sign at g) = 0
closer (to_operate at o) = 0
closer (to_decide at j e) = 0
closer (to_index taken at w low high s) = 0
closer (to_select o) = 0
closer (to_store at) = 0
closer (to_write at a) = 1
closer (to_deliver a v) = 0
closer (to_test at s xs) = 0
closer (to_while at q e s) = 1
closer (to_until at s q e) = 1
closer (to_exit at s b l) = 1
closer to_close = 1
closer (to_apply at p n) = 0
closer (to_call at p n) = 0
closer (to_leave at) = 0
closer (to_leave_with at r t) = 0

-- the statements open
abbrev pub closers : List Task → ℕ
closers [] = 0
closers (t ∷ k) = closer t + closers k

abbrev pub Reckoned : Config → Type 0
Reckoned c = c.held.depth ≡ length c.held.waiting + length c.held.lents + closers c.tasks

-- The depth d that an action tells, and the depth n of what is left after it. They are the same, but that a register's value counts before
-- it is given, that a variable whose last index is done counts no more, and that a statement is still around the test that ends it.
abbrev pub Told : ℕ → Action → ℕ → Type 0
Told d (a_constant v) n = d ≡ n
Told d (a_take c t) n = d ≡ n
Told d (a_read a t) n = d ≡ suc n
Told d (an_index base w low high s v) n = (d ≡ n) ⊎ (suc d ≡ n)
Told d (a_sign g v) n = d ≡ n
Told d (an_operator o x y) n = d ≡ n
Told d (a_decision j v) n = d ≡ n
Told d (a_test v) n = (d ≡ n) ⊎ (d ≡ suc n)
Told d a_turn n = d ≡ n
Told d (a_store w c v) n = d ≡ n
Told d (a_write a v) n = d ≡ n
Told d (an_entry m fs zs is) n = d ≡ n
Told d a_leave n = d ≡ n
Told d (a_leave_with r t) n = d ≡ n

abbrev pub Tells : Next → Type 0
Tells none = Unit {0}
Tells (acts at d a c) = (v : ℤ) → Told d a (c v).held.depth
Tells (awaits a t c) = Unit {0}
Tells (offers a v c) = Unit {0}

abbrev pub Steady : Config → Type 0
Steady c = Present c × Covered c × Reckoned c

-- and the next action tells it
abbrev pub Deep : Config → Type 0
Deep c = Reckoned c × Tells (next c)
