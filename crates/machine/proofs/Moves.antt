-- A move keeps the next action and loses weight.
use Rattle.std.proofs.Common.{Bool, List, [], ◌∷◌, refl, arith}
use Rattle.program.specs.Trees.{Expr, Designator, Actuals, Stmt, Arms, Parts}
use Rattle.program.specs.Trees.Expr.{constant, value, register, unary, binary, junction, apply}
use Rattle.program.specs.Trees.Designator.{whole, element, part}
use Rattle.program.specs.Trees.Actuals.{no_more, a_value, a_variable}
use Rattle.program.specs.Trees.Stmt.{skip, seq, assign, offer, if, while, repeat, loop, call}
use Rattle.program.specs.Trees.Arms.{otherwise, arm}
use Rattle.program.specs.Trees.Parts.{ends, exits}
use Rattle.machine.specs.Machine.{Task, Held}
use Rattle.machine.specs.Machine.Task.{to_eval, to_locate, to_pass, to_exec, to_arms, to_turn, to_take, to_receive, to_sign, to_operate, to_decide, to_index, to_select, to_store, to_write, to_deliver, to_test, to_while, to_until, to_exit, to_close, to_apply, to_call, to_leave, to_leave_with}
use Rattle.machine.specs.Moves.{move_eval, move_locate, move_pass, move_exec, move_arms, move_turn, SoundMove}
use Rattle.machine.specs.Theorems.{MovesFind}

eval_move : (e : Expr) (k : List Task) (h : Held) → SoundMove (to_eval e ∷ k) h (move_eval e k h)
eval_move (constant at u v) k h = refl
eval_move (value at t x) k h = (refl, omega arith)
eval_move (register at t a) k h = refl
eval_move (unary at g e) k h = (refl, omega arith)
eval_move (binary at o t a b) k h = (refl, omega arith)
eval_move (junction at j a b) k h = (refl, omega arith)
eval_move (apply at p xs) k h = (refl, omega arith)

locate_move : (taken : Bool) (x : Designator) (k : List Task) (h : Held) → SoundMove (to_locate taken x ∷ k) h (move_locate taken x k h)
locate_move taken (whole n) k h = (refl, omega arith)
locate_move taken (element at x w low high s e) k h = (refl, omega arith)
locate_move taken (part at x w fs o) k h = (refl, omega arith)

pass_move : (xs : Actuals) (k : List Task) (h : Held) → SoundMove (to_pass xs ∷ k) h (move_pass xs k h)
pass_move no_more k h = (refl, omega arith)
pass_move (a_value e xs) k h = (refl, omega arith)
pass_move (a_variable x xs) k h = (refl, omega arith)

exec_move : (s : Stmt) (k : List Task) (h : Held) → SoundMove (to_exec s ∷ k) h (move_exec s k h)
exec_move skip k h = (refl, omega arith)
exec_move (seq a b) k h = (refl, omega arith)
exec_move (assign at t x e) k h = (refl, omega arith)
exec_move (offer at t a e) k h = (refl, omega arith)
exec_move (if xs) k h = (refl, omega arith)
exec_move (while at q e s) k h = refl
exec_move (repeat at s q e) k h = refl
exec_move (loop at b) k h = refl
exec_move (call at p xs) k h = (refl, omega arith)

arms_move : (xs : Arms) (k : List Task) (h : Held) → SoundMove (to_arms xs ∷ k) h (move_arms xs k h)
arms_move (otherwise s) k h = (refl, omega arith)
arms_move (arm at e s xs) k h = (refl, omega arith)

turn_move : (b : Parts) (l : Stmt) (k : List Task) (h : Held) → SoundMove (to_turn b l ∷ k) h (move_turn b l k h)
turn_move (ends s) l k h = (refl, omega arith)
turn_move (exits s at e s' b) l k h = (refl, omega arith)

pub moves_find_lem : MovesFind
moves_find_lem [] h = refl
moves_find_lem (to_eval e ∷ k) h = eval_move e k h
moves_find_lem (to_locate taken x ∷ k) h = locate_move taken x k h
moves_find_lem (to_pass xs ∷ k) h = pass_move xs k h
moves_find_lem (to_exec s ∷ k) h = exec_move s k h
moves_find_lem (to_arms xs ∷ k) h = arms_move xs k h
moves_find_lem (to_turn b l ∷ k) h = turn_move b l k h
moves_find_lem (to_take at t ∷ k) h = refl
moves_find_lem (to_receive a t ∷ k) h = refl
moves_find_lem (to_sign at g ∷ k) h = refl
moves_find_lem (to_operate at o ∷ k) h = refl
moves_find_lem (to_decide at j e ∷ k) h = refl
moves_find_lem (to_index taken at w low high s ∷ k) h = refl
moves_find_lem (to_select o ∷ k) h = (refl, omega arith)
moves_find_lem (to_store at ∷ k) h = refl
moves_find_lem (to_write at a ∷ k) h = refl
moves_find_lem (to_deliver a v ∷ k) h = refl
moves_find_lem (to_test at s xs ∷ k) h = refl
moves_find_lem (to_while at q e s ∷ k) h = refl
moves_find_lem (to_until at s q e ∷ k) h = refl
moves_find_lem (to_exit at s b l ∷ k) h = refl
moves_find_lem (to_close ∷ k) h = (refl, omega arith)
moves_find_lem (to_apply at p n ∷ k) h = refl
moves_find_lem (to_call at p n ∷ k) h = refl
moves_find_lem (to_leave at ∷ k) h = refl
moves_find_lem (to_leave_with at result t ∷ k) h = refl
