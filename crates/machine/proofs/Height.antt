-- No move raises the peak of the list of tasks, and no call does.
use Prim.{tt}
use Rattle.std.proofs.Common.{ℕ, suc, ◌+◌, ◌≤◌, max, Bool, true, false, cond, List, [], ◌∷◌, length, arith}
use Rattle.program.specs.Trees.{At, Expr, Designator, Actuals, Stmt, Arms, Parts, Procedure, Function}
use Rattle.program.specs.Trees.Expr.{constant, value, register, unary, binary, junction, apply}
use Rattle.program.specs.Trees.Designator.{whole, element, part}
use Rattle.program.specs.Trees.Actuals.{no_more, a_value, a_variable}
use Rattle.program.specs.Trees.Stmt.{skip, seq, assign, offer, if, while, repeat, loop, call}
use Rattle.program.specs.Trees.Arms.{otherwise, arm}
use Rattle.program.specs.Trees.Parts.{ends, exits}
use Rattle.program.specs.Trees.Procedure.{procedure}
use Rattle.program.specs.Trees.Function.{function}
use Rattle.meaning.specs.Actions.{truth}
use Rattle.meaning.specs.Meaning.{needed}
use Rattle.machine.specs.Machine.{Task, Held, Config, the_value, top, start, next_apply, next_call}
use Rattle.machine.specs.Machine.Task.{to_eval, to_locate, to_pass, to_exec, to_arms, to_turn, to_take, to_receive, to_sign, to_operate, to_decide, to_index, to_select, to_store, to_write, to_deliver, to_test, to_while, to_until, to_exit, to_close, to_apply, to_call, to_leave, to_leave_with}
use Rattle.machine.specs.Machine.Next.{none, acts, awaits, offers}
use Rattle.machine.specs.Moves.{After, AfterMove, KeptByMoves, Move, move, move_eval, move_locate, move_pass, move_exec, move_arms, move_turn}
use Rattle.machine.specs.Moves.Move.{rests, moves}
use Rattle.machine.specs.Height.{expr_room, stmt_room, parts_room, peak, height, Low}
use Rattle.machine.specs.Theorems.{StaysLow}
use Rattle.machine.proofs.Keeps.{calls_keep}

length_low : (k : List Task) → length k ≤ peak k
length_low [] = omega arith
length_low (t ∷ k) = omega arith

eval_low : (e : Expr) (k : List Task) (h : Held) → AfterMove (Low (peak (to_eval e ∷ k))) (move_eval e k h)
eval_low (constant at u v) k h = λ v. omega arith
eval_low (value at t x) k h = omega arith
eval_low (register at t a) k h = λ v. omega arith
eval_low (unary at g e) k h = omega arith
eval_low (binary at o t a b) k h = omega arith
eval_low (junction at j a b) k h = omega arith
eval_low (apply at p xs) k h = omega arith

locate_low : (taken : Bool) (x : Designator) (k : List Task) (h : Held) → AfterMove (Low (peak (to_locate taken x ∷ k))) (move_locate taken x k h)
locate_low taken (whole n) k h = omega arith
locate_low taken (element at x w low high s e) k h = omega arith
locate_low taken (part at x w fs o) k h = omega arith

pass_low : (xs : Actuals) (k : List Task) (h : Held) → AfterMove (Low (peak (to_pass xs ∷ k))) (move_pass xs k h)
pass_low no_more k h = omega arith
pass_low (a_value e xs) k h = omega arith
pass_low (a_variable x xs) k h = omega arith

exec_low : (s : Stmt) (k : List Task) (h : Held) → AfterMove (Low (peak (to_exec s ∷ k))) (move_exec s k h)
exec_low skip k h = omega arith
exec_low (seq a b) k h = omega arith
exec_low (assign at t x e) k h = omega arith
exec_low (offer at t a e) k h = omega arith
exec_low (if xs) k h = omega arith
exec_low (while at q e s) k h = λ v. omega arith
exec_low (repeat at s q e) k h = λ v. omega arith
exec_low (loop at b) k h = λ v. omega arith
exec_low (call at p xs) k h = omega arith

arms_low : (xs : Arms) (k : List Task) (h : Held) → AfterMove (Low (peak (to_arms xs ∷ k))) (move_arms xs k h)
arms_low (otherwise s) k h = omega arith
arms_low (arm at e s xs) k h = omega arith

left_below : (a b : ℕ) → a ≤ max a b
left_below a b = omega arith

right_below : (a b : ℕ) → b ≤ max a b
right_below a b = omega arith

under : (a b n : ℕ) → a ≤ n → b ≤ n → max a b ≤ n
under a b n p q = omega arith

-- of the rooms of a `when`, those that are left at its test
when_room : (a b c d l : ℕ) → max c (max d l) ≤ max (max a (max b (max c d))) l
when_room a b c d l = under c (max d l) _ (omega arith) (under d l _ (omega arith) (omega arith))

when_low : (n k a b c d l p : ℕ) → suc k + max (max (suc (suc a)) (max (suc b) (max c d))) l ≤ n → p ≤ n
    → max (suc (suc (suc k)) + a) (max (suc (suc k) + b) (max (suc k + max c (max d l)) p)) ≤ n
when_low n k a b c d l p h q =
    let w = when_room (suc (suc a)) (suc b) c d l in
    let x : suc (suc a) ≤ max (max (suc (suc a)) (max (suc b) (max c d))) l = omega arith in
    let y : suc b ≤ max (max (suc (suc a)) (max (suc b) (max c d))) l = omega arith in
    let m = max (max (suc (suc a)) (max (suc b) (max c d))) l in
    sums m (max c (max d l)) h w x y
  where
    sums : (m e : ℕ) → suc k + m ≤ n → e ≤ m → suc (suc a) ≤ m → suc b ≤ m → max (suc (suc (suc k)) + a) (max (suc (suc k) + b) (max (suc k + e) p)) ≤ n
    sums m e h w x y = omega arith

turn_low : (b : Parts) (l : Stmt) (k : List Task) (h : Held) → AfterMove (Low (peak (to_turn b l ∷ k))) (move_turn b l k h)
turn_low (ends s) l k h = omega arith
turn_low (exits s at e s' b) l k h =
    when_low _ (length k) (stmt_room s) (expr_room e) (suc (stmt_room s')) (parts_room b) (stmt_room l) (peak k) (left_below _ _) (right_below _ _)

-- a test that comes out so or so
either_low : (b : Bool) (n : ℕ) (c c' : Config) → peak c.tasks ≤ n → peak c'.tasks ≤ n → peak (cond b c c').tasks ≤ n
either_low true n c c' p q = p
either_low false n c c' p q = q

apply_low : (p : Function) (at : At) (n : ℕ) (k : List Task) (h : Held) → After (Low (peak (to_apply at p n ∷ k))) (next_apply p at n k h)
apply_low (function m fs r t vs body) at n k h = λ v. omega arith

call_low : (p : Procedure) (at : At) (n : ℕ) (k : List Task) (h : Held) → After (Low (peak (to_call at p n ∷ k))) (next_call p at n k h)
call_low (procedure m fs vs body) at n k h = λ v. omega arith

move_low : (k : List Task) (h : Held) → AfterMove (Low (peak k)) (move k h)
move_low [] h = tt
move_low (to_eval e ∷ k) h = eval_low e k h
move_low (to_locate taken x ∷ k) h = locate_low taken x k h
move_low (to_pass xs ∷ k) h = pass_low xs k h
move_low (to_exec s ∷ k) h = exec_low s k h
move_low (to_arms xs ∷ k) h = arms_low xs k h
move_low (to_turn b l ∷ k) h = turn_low b l k h
move_low (to_take at t ∷ k) h = λ v. omega arith
move_low (to_receive a t ∷ k) h = λ v. omega arith
move_low (to_sign at g ∷ k) h = λ v. omega arith
move_low (to_operate at o ∷ k) h = λ v. omega arith
move_low (to_decide at j e ∷ k) h = λ v. either_low (needed j (the_value (top h))) _ _ _ (omega arith) (omega arith)
move_low (to_index taken at w low high s ∷ k) h = λ v. omega arith
move_low (to_select o ∷ k) h = omega arith
move_low (to_store at ∷ k) h = λ v. omega arith
move_low (to_write at a ∷ k) h = λ v. omega arith
move_low (to_deliver a v ∷ k) h = omega arith
move_low (to_test at s xs ∷ k) h = λ v. either_low (truth (the_value (top h))) _ _ _ (omega arith) (omega arith)
move_low (to_while at q e s ∷ k) h = λ v. either_low (truth (the_value (top h))) _ _ _ (omega arith) (omega arith)
move_low (to_until at s q e ∷ k) h = λ v. either_low (truth (the_value (top h))) _ _ _ (omega arith) (omega arith)
move_low (to_exit at s b l ∷ k) h = λ v. either_low (truth (the_value (top h))) _ _ _ (omega arith) (omega arith)
move_low (to_close ∷ k) h = omega arith
move_low (to_apply at p n ∷ k) h = apply_low p at n k h
move_low (to_call at p n ∷ k) h = call_low p at n k h
move_low (to_leave at ∷ k) h = λ v. omega arith
move_low (to_leave_with at r t ∷ k) h = λ v. omega arith

-- a list of tasks that gets no higher than n
weaker : (n m : ℕ) → n ≤ m → (x : Move) → AfterMove (Low n) x → AfterMove (Low m) x
weaker n m l (rests none) h = tt
weaker n m l (rests (acts at d a c)) h = λ v. let p = h v in omega arith
weaker n m l (rests (awaits a t c)) h = λ v. let p = h v in omega arith
weaker n m l (rests (offers a v c)) h = omega arith
weaker n m l (moves k h) p = omega arith

moves_low : (n : ℕ) → KeptByMoves (Low n)
moves_low n k h i = weaker (peak k) n i (move k h) (move_low k h)

pub stays_low_lem : StaysLow
stays_low_lem = (length_low, moves_low, λ P es. calls_keep (Low (height P)) (moves_low (height P)) es (start P) (omega arith))
