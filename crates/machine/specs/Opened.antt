-- Each open call has its leave among the tasks: so no more calls are open than there are tasks.
use Rattle.std.specs.Prelude.{◌≡◌, ℕ, ◌+◌, List, [], ◌∷◌, length}
use Rattle.machine.specs.Machine.{Task, Config}
use Rattle.machine.specs.Machine.Task.{to_eval, to_locate, to_pass, to_exec, to_arms, to_turn, to_take, to_receive, to_sign, to_operate, to_decide, to_index, to_select, to_store, to_write, to_deliver, to_test, to_while, to_until, to_exit, to_close, to_apply, to_call, to_leave, to_leave_with}

abbrev pub leave_in : Task → ℕ
leave_in (to_eval e) = 0
leave_in (to_locate taken x) = 0
leave_in (to_pass xs) = 0
leave_in (to_exec s) = 0
leave_in (to_arms xs) = 0
leave_in (to_turn b l) = 0
leave_in (to_take at t) = 0
leave_in (to_receive a t) = 0
leave_in (to_sign at g) = 0
leave_in (to_operate at o) = 0
leave_in (to_decide at j e) = 0
leave_in (to_index taken at w low high s) = 0
leave_in (to_select o) = 0
leave_in (to_store at) = 0
leave_in (to_write at a) = 0
leave_in (to_deliver a v) = 0
leave_in (to_test at s xs) = 0
leave_in (to_while at q e s) = 0
leave_in (to_until at s q e) = 0
leave_in (to_exit at s b l) = 0
leave_in to_close = 0
leave_in (to_apply at p n) = 0
leave_in (to_call at p n) = 0
leave_in (to_leave at) = 1
leave_in (to_leave_with at r t) = 1

-- the leaves that are still to be done
abbrev pub leaves_in : List Task → ℕ
leaves_in [] = 0
leaves_in (t ∷ k) = leave_in t + leaves_in k

-- each open call has its leave there, and there is no other
abbrev pub Covered : Config → Type 0
Covered c = length c.held.lents ≡ leaves_in c.tasks
