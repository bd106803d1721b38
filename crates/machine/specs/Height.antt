-- How high the list of tasks gets: a bound that is reckoned from the program.
use Rattle.std.specs.Prelude.{ℕ, suc, ◌+◌, ◌≤◌, max, List, [], ◌∷◌, length}
use Rattle.program.specs.Trees.{Expr, Designator, Actuals, Stmt, Arms, Parts, Procedure, Function, Program}
use Rattle.program.specs.Trees.Expr.{constant, value, register, unary, binary, junction, apply}
use Rattle.program.specs.Trees.Designator.{whole, element, part}
use Rattle.program.specs.Trees.Actuals.{no_more, a_value, a_variable}
use Rattle.program.specs.Trees.Stmt.{skip, seq, assign, offer, if, while, repeat, loop, call}
use Rattle.program.specs.Trees.Arms.{otherwise, arm}
use Rattle.program.specs.Trees.Parts.{ends, exits}
use Rattle.program.specs.Trees.Procedure.{procedure}
use Rattle.program.specs.Trees.Function.{function}
use Rattle.meaning.specs.Meaning.{whole_body}
use Rattle.machine.specs.Machine.{Task, Config}
use Rattle.machine.specs.Machine.Task.{to_eval, to_locate, to_pass, to_exec, to_arms, to_turn, to_take, to_receive, to_sign, to_operate, to_decide, to_index, to_select, to_store, to_write, to_deliver, to_test, to_while, to_until, to_exit, to_close, to_apply, to_call, to_leave, to_leave_with}

-- how many places more than its own a part takes until it is over
abbrev mutual
  pub expr_room : Expr → ℕ
  expr_room (constant at u v) = 0
  expr_room (value at t x) = suc (designator_room x)
  expr_room (register at t a) = 0
  expr_room (unary at g e) = suc (expr_room e)
  expr_room (binary at o t a b) = max (suc (suc (expr_room a))) (suc (expr_room b))
  expr_room (junction at j a b) = max (suc (expr_room a)) (expr_room b)
  expr_room (apply at p xs) = suc (max (actuals_room xs) (function_room p))

  pub designator_room : Designator → ℕ
  designator_room (whole n) = 0
  designator_room (element at x w low high s e) = max (suc (suc (designator_room x))) (suc (expr_room e))
  designator_room (part at x w fs o) = suc (designator_room x)

  pub actuals_room : Actuals → ℕ
  actuals_room no_more = 0
  actuals_room (a_value e xs) = max (suc (expr_room e)) (actuals_room xs)
  actuals_room (a_variable x xs) = max (suc (designator_room x)) (actuals_room xs)

  pub stmt_room : Stmt → ℕ
  stmt_room skip = 0
  stmt_room (seq a b) = max (suc (stmt_room a)) (stmt_room b)
  stmt_room (assign at t x e) = max (suc (suc (designator_room x))) (suc (expr_room e))
  stmt_room (offer at t a e) = suc (expr_room e)
  stmt_room (if xs) = suc (arms_room xs)
  stmt_room (while at q e s) = max (suc (expr_room e)) (suc (suc (stmt_room s)))
  stmt_room (repeat at s q e) = max (suc (suc (stmt_room s))) (suc (expr_room e))
  stmt_room (loop at b) = parts_room b
  stmt_room (call at p xs) = suc (max (actuals_room xs) (procedure_room p))

  pub arms_room : Arms → ℕ
  arms_room (otherwise s) = stmt_room s
  arms_room (arm at e s xs) = max (suc (expr_room e)) (max (stmt_room s) (arms_room xs))

  pub parts_room : Parts → ℕ
  parts_room (ends s) = suc (suc (stmt_room s))
  parts_room (exits s at e s' b) = max (suc (suc (stmt_room s))) (max (suc (expr_room e)) (max (suc (stmt_room s')) (parts_room b)))

  pub procedure_room : Procedure → ℕ
  procedure_room (procedure m fs vs body) = stmt_room body

  pub function_room : Function → ℕ
  function_room (function m fs r t vs body) = stmt_room body

abbrev pub task_room : Task → ℕ
task_room (to_eval e) = expr_room e
task_room (to_locate taken x) = designator_room x
task_room (to_pass xs) = actuals_room xs
task_room (to_exec s) = stmt_room s
task_room (to_arms xs) = arms_room xs
task_room (to_turn b l) = max (parts_room b) (stmt_room l)
task_room (to_take at t) = 0
task_room (to_receive a t) = 0
task_room (to_sign at g) = 0
task_room (to_operate at o) = 0
task_room (to_decide at j e) = expr_room e
task_room (to_index taken at w low high s) = 0
task_room (to_select o) = 0
task_room (to_store at) = 0
task_room (to_write at a) = 0
task_room (to_deliver a v) = 0
task_room (to_test at s xs) = max (stmt_room s) (arms_room xs)
task_room (to_while at q e s) = max (suc (expr_room e)) (suc (suc (stmt_room s)))
task_room (to_until at s q e) = max (suc (suc (stmt_room s))) (suc (expr_room e))
task_room (to_exit at s b l) = max (suc (stmt_room s)) (max (parts_room b) (stmt_room l))
task_room to_close = 0
task_room (to_apply at p n) = suc (function_room p)
task_room (to_call at p n) = suc (procedure_room p)
task_room (to_leave at) = 0
task_room (to_leave_with at r t) = 0

-- the greatest height that a list of tasks gets to before it is empty
abbrev pub peak : List Task → ℕ
peak [] = 0
peak (t ∷ k) = max (suc (length k) + task_room t) (peak k)

-- the height that is enough for a program
abbrev pub height : Program → ℕ
height P = suc (stmt_room (whole_body P.bodies))

-- the list of tasks gets no higher than n
abbrev pub Low : ℕ → Config → Type 0
Low n c = peak c.tasks ≤ n
