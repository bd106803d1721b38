-- How many values and variables wait at most: a bound that is reckoned from the program. (The greatest depth is no such bound: targets and
-- var actuals begin to wait without an action, so that more than that may wait before the next action is found to be too deep.)
use Rattle.std.specs.Prelude.{ℕ, zero, suc, ◌+◌, ◌≤◌, max, List, [], ◌∷◌, length}
use Rattle.program.specs.Trees.{Expr, Designator, Actuals, Stmt, Arms, Parts, Procedure, Function, Program}
use Rattle.program.specs.Trees.Expr.{constant, value, register, unary, binary, junction, apply}
use Rattle.program.specs.Trees.Designator.{whole, element, part}
use Rattle.program.specs.Trees.Actuals.{no_more, a_value, a_variable}
use Rattle.program.specs.Trees.Stmt.{skip, seq, assign, offer, if, while, repeat, loop, call}
use Rattle.program.specs.Trees.Arms.{otherwise, arm}
use Rattle.program.specs.Trees.Parts.{ends, exits}
use Rattle.program.specs.Trees.Procedure.{procedure}
use Rattle.program.specs.Trees.Function.{function}
use Rattle.meaning.specs.Meaning.{whole_body}
use Rattle.machine.specs.Machine.{Task, Config, one_less, how_many}
use Rattle.machine.specs.Machine.Task.{to_eval, to_locate, to_pass, to_exec, to_arms, to_turn, to_take, to_receive, to_sign, to_operate, to_decide, to_index, to_select, to_store, to_write, to_deliver, to_test, to_while, to_until, to_exit, to_close, to_apply, to_call, to_leave, to_leave_with}

-- how many more than before wait at most while a part is done
abbrev mutual
  pub expr_waits : Expr → ℕ
  expr_waits (constant at u v) = 1
  expr_waits (value at t x) = max 1 (designator_waits x)
  expr_waits (register at t a) = 1
  expr_waits (unary at g e) = max 1 (expr_waits e)
  expr_waits (binary at o t a b) = max (expr_waits a) (suc (expr_waits b))
  expr_waits (junction at j a b) = max (expr_waits a) (max 1 (expr_waits b))
  expr_waits (apply at p xs) = max (actuals_waits xs) (max 1 (function_waits p))

  pub designator_waits : Designator → ℕ
  designator_waits (whole n) = 1
  designator_waits (element at x w low high s e) = max (designator_waits x) (suc (expr_waits e))
  designator_waits (part at x w fs o) = max 1 (designator_waits x)

  pub actuals_waits : Actuals → ℕ
  actuals_waits no_more = 0
  actuals_waits (a_value e xs) = max (expr_waits e) (suc (actuals_waits xs))
  actuals_waits (a_variable x xs) = max (designator_waits x) (suc (actuals_waits xs))

  pub stmt_waits : Stmt → ℕ
  stmt_waits skip = 0
  stmt_waits (seq a b) = max (stmt_waits a) (stmt_waits b)
  stmt_waits (assign at t x e) = max (designator_waits x) (suc (expr_waits e))
  stmt_waits (offer at t a e) = expr_waits e
  stmt_waits (if xs) = arms_waits xs
  stmt_waits (while at q e s) = max (expr_waits e) (stmt_waits s)
  stmt_waits (repeat at s q e) = max (expr_waits e) (stmt_waits s)
  stmt_waits (loop at b) = parts_waits b
  stmt_waits (call at p xs) = max (actuals_waits xs) (procedure_waits p)

  pub arms_waits : Arms → ℕ
  arms_waits (otherwise s) = stmt_waits s
  arms_waits (arm at e s xs) = max (expr_waits e) (max (stmt_waits s) (arms_waits xs))

  pub parts_waits : Parts → ℕ
  parts_waits (ends s) = stmt_waits s
  parts_waits (exits s at e s' b) = max (stmt_waits s) (max (expr_waits e) (max (stmt_waits s') (parts_waits b)))

  pub procedure_waits : Procedure → ℕ
  procedure_waits (procedure m fs vs body) = stmt_waits body

  pub function_waits : Function → ℕ
  function_waits (function m fs r t vs body) = stmt_waits body

-- n more, and n fewer
abbrev pub more_by : ℕ → ℕ → ℕ
more_by zero w = w
more_by (suc n) w = more_by n (suc w)

abbrev pub less_by : ℕ → ℕ → ℕ
less_by zero w = w
less_by (suc n) w = one_less (less_by n w)

-- how many wait at most while a task is done that begins with w
abbrev pub task_waits : Task → ℕ → ℕ
task_waits (to_eval e) w = w + expr_waits e
task_waits (to_locate taken x) w = w + designator_waits x
task_waits (to_pass xs) w = w + actuals_waits xs
task_waits (to_exec s) w = w + stmt_waits s
task_waits (to_arms xs) w = w + arms_waits xs
task_waits (to_turn b l) w = w + max (parts_waits b) (stmt_waits l)
task_waits (to_take at t) w = suc (one_less w)
task_waits (to_receive a t) w = suc w
task_waits (to_sign at g) w = suc (one_less w)
task_waits (to_operate at o) w = suc (one_less (one_less w))
task_waits (to_decide at j e) w = one_less w + max 1 (expr_waits e)
task_waits (to_index taken at u low high s) w = suc (one_less (one_less w))
task_waits (to_select o) w = suc (one_less w)
task_waits (to_store at) w = one_less (one_less w)
task_waits (to_write at a) w = one_less w
task_waits (to_deliver a v) w = w
task_waits (to_test at s xs) w = one_less w + max (stmt_waits s) (arms_waits xs)
task_waits (to_while at q e s) w = one_less w + max (expr_waits e) (stmt_waits s)
task_waits (to_until at s q e) w = one_less w + max (expr_waits e) (stmt_waits s)
task_waits (to_exit at s b l) w = one_less w + max (stmt_waits s) (max (parts_waits b) (stmt_waits l))
task_waits to_close w = w
task_waits (to_apply at p n) w = less_by n w + max 1 (function_waits p)
task_waits (to_call at p n) w = less_by n w + procedure_waits p
task_waits (to_leave at) w = w
task_waits (to_leave_with at r t) w = suc w

-- how many wait after it
abbrev pub task_leaves : Task → ℕ → ℕ
task_leaves (to_eval e) w = suc w
task_leaves (to_locate taken x) w = suc w
task_leaves (to_pass xs) w = more_by (how_many xs) w
task_leaves (to_exec s) w = w
task_leaves (to_arms xs) w = w
task_leaves (to_turn b l) w = w
task_leaves (to_take at t) w = suc (one_less w)
task_leaves (to_receive a t) w = suc w
task_leaves (to_sign at g) w = suc (one_less w)
task_leaves (to_operate at o) w = suc (one_less (one_less w))
task_leaves (to_decide at j e) w = suc (one_less w)
task_leaves (to_index taken at u low high s) w = suc (one_less (one_less w))
task_leaves (to_select o) w = suc (one_less w)
task_leaves (to_store at) w = one_less (one_less w)
task_leaves (to_write at a) w = one_less w
task_leaves (to_deliver a v) w = w
task_leaves (to_test at s xs) w = one_less w
task_leaves (to_while at q e s) w = one_less w
task_leaves (to_until at s q e) w = one_less w
task_leaves (to_exit at s b l) w = one_less w
task_leaves to_close w = w
task_leaves (to_apply at p n) w = suc (less_by n w)
task_leaves (to_call at p n) w = less_by n w
task_leaves (to_leave at) w = w
task_leaves (to_leave_with at r t) w = suc w

-- how many wait at most while a list of tasks is done
abbrev pub reach : List Task → ℕ → ℕ
reach [] w = w
reach (t ∷ k) w = max (task_waits t w) (reach k (task_leaves t w))

-- the number that is enough for a program
abbrev pub waits : Program → ℕ
waits P = stmt_waits (whole_body P.bodies)

-- no more than n wait now, nor will
abbrev pub Few : ℕ → Config → Type 0
Few n c = (length c.held.waiting ≤ n) × (reach c.tasks (length c.held.waiting) ≤ n)
