-- What a task takes off the top of what waits is there: no task ever looks for a value or a variable in vain.
use Rattle.std.specs.Prelude.{ℕ, ◌≤◌, List, [], ◌∷◌, length}
use Rattle.machine.specs.Machine.{Task, Config}
use Rattle.machine.specs.Machine.Task.{to_eval, to_locate, to_pass, to_exec, to_arms, to_turn, to_take, to_receive, to_sign, to_operate, to_decide, to_index, to_select, to_store, to_write, to_deliver, to_test, to_while, to_until, to_exit, to_close, to_apply, to_call, to_leave, to_leave_with}
use Rattle.machine.specs.Waiting.{task_leaves}

-- how many a task takes
abbrev pub task_takes : Task → ℕ
task_takes (to_eval e) = 0
task_takes (to_locate taken x) = 0
task_takes (to_pass xs) = 0
task_takes (to_exec s) = 0
task_takes (to_arms xs) = 0
task_takes (to_turn b l) = 0
task_takes (to_take at t) = 1
task_takes (to_receive a t) = 0
task_takes (to_sign at g) = 1
task_takes (to_operate at o) = 2
task_takes (to_decide at j e) = 1
task_takes (to_index taken at w low high s) = 2
task_takes (to_select o) = 1
task_takes (to_store at) = 2
task_takes (to_write at a) = 1
task_takes (to_deliver a v) = 0
task_takes (to_test at s xs) = 1
task_takes (to_while at q e s) = 1
task_takes (to_until at s q e) = 1
task_takes (to_exit at s b l) = 1
task_takes to_close = 0
task_takes (to_apply at p n) = n
task_takes (to_call at p n) = n
task_takes (to_leave at) = 0
task_takes (to_leave_with at r t) = 0

-- where w wait, each of the tasks finds what it takes
abbrev pub Enough : List Task → ℕ → Type 0
Enough [] w = Unit {0}
Enough (t ∷ k) w = (task_takes t ≤ w) × Enough k (task_leaves t w)

abbrev pub Present : Config → Type 0
Present c = Enough c.tasks (length c.held.waiting)
