-- Every open call keeps its leave among the tasks.
use Prim.{tt, absurd}
use Rattle.std.proofs.Common.{◌≡◌, ℕ, zero, suc, ◌+◌, ◌≤◌, Bool, true, false, cond, List, [], ◌∷◌, length, refl, ap, arith}
use mathlib.Core.List.{tail}
use Rattle.program.specs.Trees.{At, Expr, Designator, Actuals, Stmt, Arms, Parts, Procedure, Function}
use Rattle.program.specs.Trees.Expr.{constant, value, register, unary, binary, junction, apply}
use Rattle.program.specs.Trees.Designator.{whole, element, part}
use Rattle.program.specs.Trees.Actuals.{no_more, a_value, a_variable}
use Rattle.program.specs.Trees.Stmt.{skip, seq, assign, offer, if, while, repeat, loop, call}
use Rattle.program.specs.Trees.Arms.{otherwise, arm}
use Rattle.program.specs.Trees.Parts.{ends, exits}
use Rattle.program.specs.Trees.Procedure.{procedure}
use Rattle.program.specs.Trees.Function.{function}
use Rattle.meaning.specs.Actions.{truth}
use Rattle.meaning.specs.Meaning.{needed}
use Rattle.machine.specs.Machine.{Task, Held, Config, the_value, top, pop, pops, then, start, next_apply, next_call}
use Rattle.machine.specs.Machine.Task.{to_eval, to_locate, to_pass, to_exec, to_arms, to_turn, to_take, to_receive, to_sign, to_operate, to_decide, to_index, to_select, to_store, to_write, to_deliver, to_test, to_while, to_until, to_exit, to_close, to_apply, to_call, to_leave, to_leave_with}
use Rattle.machine.specs.Moves.{After, AfterMove, KeptByMoves, move_eval, move_locate, move_pass, move_exec, move_arms, move_turn}
use Rattle.machine.specs.Opened.{leave_in, leaves_in, Covered}
use Rattle.machine.specs.Theorems.{CallsCovered}
use Rattle.machine.proofs.Keeps.{calls_keep}

leaves_low : (k : List Task) → leaves_in k ≤ length k
leaves_low [] = omega arith
leaves_low (t ∷ k) = let i = leaves_low k in let j = one t in omega arith
  where
    one : (t : Task) → leave_in t ≤ 1
    one (to_eval e) = omega arith
    one (to_locate taken x) = omega arith
    one (to_pass xs) = omega arith
    one (to_exec s) = omega arith
    one (to_arms xs) = omega arith
    one (to_turn b l) = omega arith
    one (to_take at t) = omega arith
    one (to_receive a t) = omega arith
    one (to_sign at g) = omega arith
    one (to_operate at o) = omega arith
    one (to_decide at j e) = omega arith
    one (to_index taken at w low high s) = omega arith
    one (to_select o) = omega arith
    one (to_store at) = omega arith
    one (to_write at a) = omega arith
    one (to_deliver a v) = omega arith
    one (to_test at s xs) = omega arith
    one (to_while at q e s) = omega arith
    one (to_until at s q e) = omega arith
    one (to_exit at s b l) = omega arith
    one to_close = omega arith
    one (to_apply at p n) = omega arith
    one (to_call at p n) = omega arith
    one (to_leave at) = omega arith
    one (to_leave_with at r t) = omega arith

fewer : {A : Type 0} (l : List A) (n : ℕ) → length l ≡ 1 + n → length (tail l) ≡ n
fewer [] n h = absurd (omega arith)
fewer (x ∷ l) n h = omega arith

pub pops_lents : (n : ℕ) (h : Held) → (pops n h).lents ≡ h.lents
pops_lents zero h = refl
pops_lents (suc n) h = pops_lents n (pop h)

eval_covered : (e : Expr) (k : List Task) (h : Held) → Covered (then (to_eval e ∷ k) h) → AfterMove Covered (move_eval e k h)
eval_covered (constant at u v) k h i = λ v. omega arith
eval_covered (value at t x) k h i = omega arith
eval_covered (register at t a) k h i = λ v. omega arith
eval_covered (unary at g e) k h i = omega arith
eval_covered (binary at o t a b) k h i = omega arith
eval_covered (junction at j a b) k h i = omega arith
eval_covered (apply at p xs) k h i = omega arith

locate_covered : (taken : Bool) (x : Designator) (k : List Task) (h : Held) → Covered (then (to_locate taken x ∷ k) h) → AfterMove Covered (move_locate taken x k h)
locate_covered taken (whole m) k h i = omega arith
locate_covered taken (element at x w low high s e) k h i = omega arith
locate_covered taken (part at x w fs o) k h i = omega arith

pass_covered : (xs : Actuals) (k : List Task) (h : Held) → Covered (then (to_pass xs ∷ k) h) → AfterMove Covered (move_pass xs k h)
pass_covered no_more k h i = omega arith
pass_covered (a_value e xs) k h i = omega arith
pass_covered (a_variable x xs) k h i = omega arith

exec_covered : (s : Stmt) (k : List Task) (h : Held) → Covered (then (to_exec s ∷ k) h) → AfterMove Covered (move_exec s k h)
exec_covered skip k h i = omega arith
exec_covered (seq a b) k h i = omega arith
exec_covered (assign at t x e) k h i = omega arith
exec_covered (offer at t a e) k h i = omega arith
exec_covered (if xs) k h i = omega arith
exec_covered (while at q e s) k h i = λ v. omega arith
exec_covered (repeat at s q e) k h i = λ v. omega arith
exec_covered (loop at b) k h i = λ v. omega arith
exec_covered (call at p xs) k h i = omega arith

arms_covered : (xs : Arms) (k : List Task) (h : Held) → Covered (then (to_arms xs ∷ k) h) → AfterMove Covered (move_arms xs k h)
arms_covered (otherwise s) k h i = omega arith
arms_covered (arm at e s xs) k h i = omega arith

turn_covered : (b : Parts) (l : Stmt) (k : List Task) (h : Held) → Covered (then (to_turn b l ∷ k) h) → AfterMove Covered (move_turn b l k h)
turn_covered (ends s) l k h i = omega arith
turn_covered (exits s at e s' b) l k h i = omega arith

-- a test that comes out so or so
either_covered : (b : Bool) (c c' : Config) → Covered c → Covered c' → Covered (cond b c c')
either_covered true c c' p q = p
either_covered false c c' p q = q

apply_covered : (p : Function) (at : At) (m : ℕ) (k : List Task) (h : Held) → Covered (then (to_apply at p m ∷ k) h) → After Covered (next_apply p at m k h)
apply_covered (function u fs r t vs body) at m k h i = λ v. let e = ap length (pops_lents m h) in omega arith

call_covered : (p : Procedure) (at : At) (m : ℕ) (k : List Task) (h : Held) → Covered (then (to_call at p m ∷ k) h) → After Covered (next_call p at m k h)
call_covered (procedure u fs vs body) at m k h i = λ v. let e = ap length (pops_lents m h) in omega arith

pub move_covered : KeptByMoves Covered
move_covered [] h i = tt
move_covered (to_eval e ∷ k) h i = eval_covered e k h i
move_covered (to_locate taken x ∷ k) h i = locate_covered taken x k h i
move_covered (to_pass xs ∷ k) h i = pass_covered xs k h i
move_covered (to_exec s ∷ k) h i = exec_covered s k h i
move_covered (to_arms xs ∷ k) h i = arms_covered xs k h i
move_covered (to_turn b l ∷ k) h i = turn_covered b l k h i
move_covered (to_take at t ∷ k) h i = λ v. omega arith
move_covered (to_receive a t ∷ k) h i = λ v. omega arith
move_covered (to_sign at g ∷ k) h i = λ v. omega arith
move_covered (to_operate at o ∷ k) h i = λ v. omega arith
move_covered (to_decide at j e ∷ k) h i = λ v. either_covered (needed j (the_value (top h))) _ _ (omega arith) (omega arith)
move_covered (to_index taken at w low high s ∷ k) h i = λ v. omega arith
move_covered (to_select o ∷ k) h i = omega arith
move_covered (to_store at ∷ k) h i = λ v. omega arith
move_covered (to_write at a ∷ k) h i = λ v. omega arith
move_covered (to_deliver a v ∷ k) h i = omega arith
move_covered (to_test at s xs ∷ k) h i = λ v. either_covered (truth (the_value (top h))) _ _ (omega arith) (omega arith)
move_covered (to_while at q e s ∷ k) h i = λ v. either_covered (truth (the_value (top h))) _ _ (omega arith) (omega arith)
move_covered (to_until at s q e ∷ k) h i = λ v. either_covered (truth (the_value (top h))) _ _ (omega arith) (omega arith)
move_covered (to_exit at s b l ∷ k) h i = λ v. either_covered (truth (the_value (top h))) _ _ (omega arith) (omega arith)
move_covered (to_close ∷ k) h i = omega arith
move_covered (to_apply at p m ∷ k) h i = apply_covered p at m k h i
move_covered (to_call at p m ∷ k) h i = call_covered p at m k h i
move_covered (to_leave at ∷ k) h i = λ v. fewer h.lents (leaves_in k) i
move_covered (to_leave_with at r t ∷ k) h i = λ v. fewer h.lents (leaves_in k) i

pub calls_covered_lem : CallsCovered
calls_covered_lem = (leaves_low, move_covered, λ P es. calls_keep Covered move_covered es (start P) (omega arith))
