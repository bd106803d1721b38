-- The loop by which an engine finds the next action: it looks at the first task only; either that acts, or it is replaced by smaller tasks.
use Rattle.std.specs.Prelude.{◌≡◌, ℕ, suc, ◌+◌, ◌<◌, Bool, true, false, List, [], ◌∷◌, ℤ}
use Rattle.program.specs.Trees.{Expr, Designator, Actuals, Stmt, Arms, Parts}
use Rattle.program.specs.Trees.Expr.{constant, value, register, unary, binary, junction, apply}
use Rattle.program.specs.Trees.Designator.{whole, element, part}
use Rattle.program.specs.Trees.Actuals.{no_more, a_value, a_variable}
use Rattle.program.specs.Trees.Stmt.{skip, seq, assign, offer, if, while, repeat, loop, call}
use Rattle.program.specs.Trees.Arms.{otherwise, arm}
use Rattle.program.specs.Trees.Parts.{ends, exits}
use Rattle.meaning.specs.Actions.Item.{val, ref}
use Rattle.meaning.specs.Actions.Action.{a_constant, a_read, a_turn}
use Rattle.meaning.specs.Meaning.{cell_of_name, way}
use Rattle.machine.specs.Machine.{Task, Held, Next, the_cell, the_way, top, push, pop, opens, closes, formals, then, how_many, next_of, Config, Now}
use Rattle.machine.specs.Machine.Task.{to_eval, to_locate, to_pass, to_exec, to_arms, to_turn, to_take, to_receive, to_sign, to_operate, to_decide, to_index, to_select, to_store, to_write, to_deliver, to_test, to_while, to_until, to_exit, to_close, to_apply, to_call, to_leave, to_leave_with}
use Rattle.machine.specs.Machine.Now.{there, fallen}
use Rattle.machine.specs.Machine.Next.{none, acts, awaits, offers}

pub data Move : Type 0 where
  rests : Next → Move
  moves : List Task → Held → Move

abbrev pub move_eval : Expr → List Task → Held → Move
move_eval (constant at u v) k h = rests (acts at (suc h.depth) (a_constant v) (λ v. then k (push (val v) h)))
move_eval (value at t x) k h = moves (to_locate true x ∷ to_take at t ∷ k) h
move_eval (register at t a) k h = rests (acts at (suc h.depth) (a_read a t) (λ _. then (to_receive a t ∷ k) h))
move_eval (unary at g e) k h = moves (to_eval e ∷ to_sign at g ∷ k) h
move_eval (binary at o t a b) k h = moves (to_eval a ∷ to_eval b ∷ to_operate at o ∷ k) h
move_eval (junction at j a b) k h = moves (to_eval a ∷ to_decide at j b ∷ k) h
move_eval (apply at p xs) k h = moves (to_pass xs ∷ to_apply at p (how_many xs) ∷ k) h

abbrev pub move_locate : (taken : Bool) → Designator → List Task → Held → Move
move_locate taken (whole n) k h = moves k (push (ref (cell_of_name (formals h) n) (way (whole n))) h)
move_locate taken (element at x w low high s e) k h = moves (to_locate false x ∷ to_eval e ∷ to_index taken at w low high s ∷ k) h
move_locate taken (part at x w fs o) k h = moves (to_locate taken x ∷ to_select o ∷ k) h

abbrev pub move_pass : Actuals → List Task → Held → Move
move_pass no_more k h = moves k h
move_pass (a_value e xs) k h = moves (to_eval e ∷ to_pass xs ∷ k) h
move_pass (a_variable x xs) k h = moves (to_locate false x ∷ to_pass xs ∷ k) h

abbrev pub move_exec : Stmt → List Task → Held → Move
move_exec skip k h = moves k h
move_exec (seq a b) k h = moves (to_exec a ∷ to_exec b ∷ k) h
move_exec (assign at t x e) k h = moves (to_locate false x ∷ to_eval e ∷ to_store at ∷ k) h
move_exec (offer at t a e) k h = moves (to_eval e ∷ to_write at a ∷ k) (opens h)
move_exec (if xs) k h = moves (to_arms xs ∷ to_close ∷ k) (opens h)
move_exec (while at q e s) k h = rests (acts at (suc h.depth) a_turn (λ _. then (to_eval e ∷ to_while at q e s ∷ k) (opens h)))
move_exec (repeat at s q e) k h = rests (acts at (suc h.depth) a_turn (λ _. then (to_exec s ∷ to_eval e ∷ to_until at s q e ∷ k) (opens h)))
move_exec (loop at b) k h = rests (acts at (suc h.depth) a_turn (λ _. then (to_turn b (loop at b) ∷ k) (opens h)))
move_exec (call at p xs) k h = moves (to_pass xs ∷ to_call at p (how_many xs) ∷ k) h

abbrev pub move_arms : Arms → List Task → Held → Move
move_arms (otherwise s) k h = moves (to_exec s ∷ k) h
move_arms (arm at e s xs) k h = moves (to_eval e ∷ to_test at s xs ∷ k) h

abbrev pub move_turn : Parts → Stmt → List Task → Held → Move
move_turn (ends s) l k h = moves (to_exec s ∷ to_close ∷ to_exec l ∷ k) h
move_turn (exits s at e s' b) l k h = moves (to_exec s ∷ to_eval e ∷ to_exit at s' b l ∷ k) h

abbrev pub move : List Task → Held → Move
move [] h = rests none
move (to_eval e ∷ k) h = move_eval e k h
move (to_locate taken x ∷ k) h = move_locate taken x k h
move (to_pass xs ∷ k) h = move_pass xs k h
move (to_exec s ∷ k) h = move_exec s k h
move (to_arms xs ∷ k) h = move_arms xs k h
move (to_turn b l ∷ k) h = move_turn b l k h
move (to_take at t ∷ k) h = rests (next_of (to_take at t ∷ k) h)
move (to_receive a t ∷ k) h = rests (next_of (to_receive a t ∷ k) h)
move (to_sign at g ∷ k) h = rests (next_of (to_sign at g ∷ k) h)
move (to_operate at o ∷ k) h = rests (next_of (to_operate at o ∷ k) h)
move (to_decide at j e ∷ k) h = rests (next_of (to_decide at j e ∷ k) h)
move (to_index taken at w low high s ∷ k) h = rests (next_of (to_index taken at w low high s ∷ k) h)
move (to_select o ∷ k) h = moves k (push (ref (the_cell (top h) + o) (the_way (top h))) (pop h))
move (to_store at ∷ k) h = rests (next_of (to_store at ∷ k) h)
move (to_write at a ∷ k) h = rests (next_of (to_write at a ∷ k) h)
move (to_deliver a v ∷ k) h = rests (next_of (to_deliver a v ∷ k) h)
move (to_test at s xs ∷ k) h = rests (next_of (to_test at s xs ∷ k) h)
move (to_while at q e s ∷ k) h = rests (next_of (to_while at q e s ∷ k) h)
move (to_until at s q e ∷ k) h = rests (next_of (to_until at s q e ∷ k) h)
move (to_exit at s b l ∷ k) h = rests (next_of (to_exit at s b l ∷ k) h)
move (to_close ∷ k) h = moves k (closes h)
move (to_apply at p n ∷ k) h = rests (next_of (to_apply at p n ∷ k) h)
move (to_call at p n ∷ k) h = rests (next_of (to_call at p n ∷ k) h)
move (to_leave at ∷ k) h = rests (next_of (to_leave at ∷ k) h)
move (to_leave_with at result t ∷ k) h = rests (next_of (to_leave_with at result t ∷ k) h)

-- how many moves a part can make at most before it has acted or is over
abbrev mutual
  pub expr_weight : Expr → ℕ
  expr_weight (constant at u v) = 0
  expr_weight (value at t x) = suc (designator_weight x)
  expr_weight (register at t a) = 0
  expr_weight (unary at g e) = suc (expr_weight e)
  expr_weight (binary at o t a b) = suc (expr_weight a + expr_weight b)
  expr_weight (junction at j a b) = suc (expr_weight a)
  expr_weight (apply at p xs) = suc (actuals_weight xs)

  pub designator_weight : Designator → ℕ
  designator_weight (whole n) = 1
  designator_weight (element at x w low high s e) = suc (designator_weight x + expr_weight e)
  designator_weight (part at x w fs o) = suc (suc (designator_weight x))

  pub actuals_weight : Actuals → ℕ
  actuals_weight no_more = 1
  actuals_weight (a_value e xs) = suc (expr_weight e + actuals_weight xs)
  actuals_weight (a_variable x xs) = suc (designator_weight x + actuals_weight xs)

abbrev mutual
  pub stmt_weight : Stmt → ℕ
  stmt_weight skip = 1
  stmt_weight (seq a b) = suc (stmt_weight a + stmt_weight b)
  stmt_weight (assign at t x e) = suc (designator_weight x + expr_weight e)
  stmt_weight (offer at t a e) = suc (expr_weight e)
  stmt_weight (if xs) = suc (suc (arms_weight xs))
  stmt_weight (while at q e s) = 0
  stmt_weight (repeat at s q e) = 0
  stmt_weight (loop at b) = 0
  stmt_weight (call at p xs) = suc (actuals_weight xs)

  pub arms_weight : Arms → ℕ
  arms_weight (otherwise s) = suc (stmt_weight s)
  arms_weight (arm at e s xs) = suc (expr_weight e)

abbrev pub parts_weight : Parts → ℕ
parts_weight (ends s) = stmt_weight s
parts_weight (exits s at e s' b) = stmt_weight s + expr_weight e

abbrev pub task_weight : Task → ℕ
task_weight (to_eval e) = expr_weight e
task_weight (to_locate taken x) = designator_weight x
task_weight (to_pass xs) = actuals_weight xs
task_weight (to_exec s) = stmt_weight s
task_weight (to_arms xs) = arms_weight xs
task_weight (to_turn b l) = suc (suc (parts_weight b + stmt_weight l))
task_weight (to_take at t) = 0
task_weight (to_receive a t) = 0
task_weight (to_sign at g) = 0
task_weight (to_operate at o) = 0
task_weight (to_decide at j e) = 0
task_weight (to_index taken at w low high s) = 0
task_weight (to_select o) = 1
task_weight (to_store at) = 0
task_weight (to_write at a) = 0
task_weight (to_deliver a v) = 0
task_weight (to_test at s xs) = 0
task_weight (to_while at q e s) = 0
task_weight (to_until at s q e) = 0
task_weight (to_exit at s b l) = 0
task_weight to_close = 1
task_weight (to_apply at p n) = 0
task_weight (to_call at p n) = 0
task_weight (to_leave at) = 0
task_weight (to_leave_with at result t) = 0

abbrev pub weight : List Task → ℕ
weight [] = 0
weight (t ∷ k) = task_weight t + weight k

-- A move keeps the next action and loses weight; where there is none, the next action is found.
abbrev pub SoundMove : List Task → Held → Move → Type 0
SoundMove k h (rests n) = next_of k h ≡ n
SoundMove k h (moves k' h') = (next_of k h ≡ next_of k' h') × (weight k' < weight k)

-- what X says of a configuration holds after the next action or call, whatever that gives
abbrev pub After : (Config → Type 0) → Next → Type 0
After X none = Unit {0}
After X (acts at d a c) = (v : ℤ) → X (c v)
After X (awaits a t c) = (v : ℤ) → X (c v)
After X (offers a v c) = X c

abbrev pub AfterMove : (Config → Type 0) → Move → Type 0
AfterMove X (rests n) = After X n
AfterMove X (moves k h) = X (then k h)

-- where a move is made, X holds after it if it held before
abbrev pub KeptByMoves : (Config → Type 0) → Type 0
KeptByMoves X = (k : List Task) (h : Held) → X (then k h) → AfterMove X (move k h)

-- X holds where the machine is now
abbrev pub Holds : (Config → Type 0) → Now → Type 0
Holds X (there c) = X c
Holds X (fallen t p) = Unit {0}
