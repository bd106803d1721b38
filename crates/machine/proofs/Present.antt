-- No task ever looks for what waits in vain.
use Prim.{tt}
use Rattle.std.proofs.Common.{◌≡◌, ℕ, zero, suc, ◌+◌, ◌≤◌, Bool, true, false, cond, List, [], ◌∷◌, length, sym, ap, subst, arith}
use Rattle.program.specs.Trees.{At, Expr, Designator, Actuals, Stmt, Arms, Parts, Procedure, Function}
use Rattle.program.specs.Trees.Expr.{constant, value, register, unary, binary, junction, apply}
use Rattle.program.specs.Trees.Designator.{whole, element, part}
use Rattle.program.specs.Trees.Actuals.{no_more, a_value, a_variable}
use Rattle.program.specs.Trees.Stmt.{skip, seq, assign, offer, if, while, repeat, loop, call}
use Rattle.program.specs.Trees.Arms.{otherwise, arm}
use Rattle.program.specs.Trees.Parts.{ends, exits}
use Rattle.program.specs.Trees.Procedure.{procedure}
use Rattle.program.specs.Trees.Function.{function}
use Rattle.meaning.specs.Actions.{truth}
use Rattle.meaning.specs.Meaning.{needed}
use Rattle.machine.specs.Machine.{Task, Held, Config, the_value, top, then, start, how_many, next_apply, next_call}
use Rattle.machine.specs.Machine.Task.{to_eval, to_locate, to_pass, to_exec, to_arms, to_turn, to_take, to_receive, to_sign, to_operate, to_decide, to_index, to_select, to_store, to_write, to_deliver, to_test, to_while, to_until, to_exit, to_close, to_apply, to_call, to_leave, to_leave_with}
use Rattle.machine.specs.Moves.{After, AfterMove, KeptByMoves, move_eval, move_locate, move_pass, move_exec, move_arms, move_turn}
use Rattle.machine.specs.Waiting.{more_by}
use Rattle.machine.specs.Present.{Enough, Present}
use Rattle.machine.specs.Theorems.{AllPresent}
use Rattle.machine.proofs.Keeps.{calls_keep}
use Rattle.machine.proofs.Waiting.{length_tail, length_tails, length_pops, more_less}

-- n more are at least n
more_enough : (n w : ℕ) → n ≤ more_by n w
more_enough n w = let e = more_reaches n w in omega arith
  where
    more_reaches : (n w : ℕ) → more_by n w ≡ n + w
    more_reaches zero w = omega arith
    more_reaches (suc n) w = let e = more_reaches n (suc w) in omega arith

-- what is left after an action
enough_at : (k : List Task) (w v : ℕ) → w ≡ v → Enough k v → Enough k w
enough_at k w v e h = subst (Enough k) (sym e) h

eval_present : (e : Expr) (k : List Task) (h : Held) → Present (then (to_eval e ∷ k) h) → AfterMove Present (move_eval e k h)
eval_present (constant at u v) k h i = λ v. i.1
eval_present (value at t x) k h i = (omega arith, (omega arith, i.1))
eval_present (register at t a) k h i = λ v. (omega arith, i.1)
eval_present (unary at g e) k h i = (omega arith, (omega arith, i.1))
eval_present (binary at o t a b) k h i = (omega arith, (omega arith, (omega arith, i.1)))
eval_present (junction at j a b) k h i = (omega arith, (omega arith, i.1))
eval_present (apply at p xs) k h i =
    (omega arith, (more_enough (how_many xs) _, enough_at k _ _ (ap suc (more_less (how_many xs) (length h.waiting))) i.1))

locate_present : (taken : Bool) (x : Designator) (k : List Task) (h : Held) → Present (then (to_locate taken x ∷ k) h) → AfterMove Present (move_locate taken x k h)
locate_present taken (whole m) k h i = i.1
locate_present taken (element at x w low high s e) k h i = (omega arith, (omega arith, (omega arith, i.1)))
locate_present taken (part at x w fs o) k h i = (omega arith, (omega arith, i.1))

pass_present : (xs : Actuals) (k : List Task) (h : Held) → Present (then (to_pass xs ∷ k) h) → AfterMove Present (move_pass xs k h)
pass_present no_more k h i = i.1
pass_present (a_value e xs) k h i = (omega arith, (omega arith, i.1))
pass_present (a_variable x xs) k h i = (omega arith, (omega arith, i.1))

exec_present : (s : Stmt) (k : List Task) (h : Held) → Present (then (to_exec s ∷ k) h) → AfterMove Present (move_exec s k h)
exec_present skip k h i = i.1
exec_present (seq a b) k h i = (omega arith, (omega arith, i.1))
exec_present (assign at t x e) k h i = (omega arith, (omega arith, (omega arith, i.1)))
exec_present (offer at t a e) k h i = (omega arith, (omega arith, i.1))
exec_present (if xs) k h i = (omega arith, (omega arith, i.1))
exec_present (while at q e s) k h i = λ v. (omega arith, (omega arith, i.1))
exec_present (repeat at s q e) k h i = λ v. (omega arith, (omega arith, (omega arith, i.1)))
exec_present (loop at b) k h i = λ v. (omega arith, i.1)
exec_present (call at p xs) k h i =
    (omega arith, (more_enough (how_many xs) _, enough_at k _ _ (more_less (how_many xs) (length h.waiting)) i.1))

arms_present : (xs : Arms) (k : List Task) (h : Held) → Present (then (to_arms xs ∷ k) h) → AfterMove Present (move_arms xs k h)
arms_present (otherwise s) k h i = (omega arith, i.1)
arms_present (arm at e s xs) k h i = (omega arith, (omega arith, i.1))

turn_present : (b : Parts) (l : Stmt) (k : List Task) (h : Held) → Present (then (to_turn b l ∷ k) h) → AfterMove Present (move_turn b l k h)
turn_present (ends s) l k h i = (omega arith, (omega arith, (omega arith, i.1)))
turn_present (exits s at e s' b) l k h i = (omega arith, (omega arith, (omega arith, i.1)))

-- a test that comes out so or so
either_present : (b : Bool) (c c' : Config) → Present c → Present c' → Present (cond b c c')
either_present true c c' p q = p
either_present false c c' p q = q

apply_present : (p : Function) (at : At) (m : ℕ) (k : List Task) (h : Held) → Present (then (to_apply at p m ∷ k) h) → After Present (next_apply p at m k h)
apply_present (function u fs r t vs body) at m k h i = λ v. (omega arith, (omega arith, enough_at k _ _ (ap suc (length_pops m h)) i.1))

call_present : (p : Procedure) (at : At) (m : ℕ) (k : List Task) (h : Held) → Present (then (to_call at p m ∷ k) h) → After Present (next_call p at m k h)
call_present (procedure u fs vs body) at m k h i = λ v. (omega arith, (omega arith, enough_at k _ _ (length_pops m h) i.1))

pub move_present : KeptByMoves Present
move_present [] h i = tt
move_present (to_eval e ∷ k) h i = eval_present e k h i
move_present (to_locate taken x ∷ k) h i = locate_present taken x k h i
move_present (to_pass xs ∷ k) h i = pass_present xs k h i
move_present (to_exec s ∷ k) h i = exec_present s k h i
move_present (to_arms xs ∷ k) h i = arms_present xs k h i
move_present (to_turn b l ∷ k) h i = turn_present b l k h i
move_present (to_take at t ∷ k) h i = λ v. enough_at k _ _ (ap suc (length_tail h.waiting)) i.1
move_present (to_receive a t ∷ k) h i = λ v. i.1
move_present (to_sign at g ∷ k) h i = λ v. enough_at k _ _ (ap suc (length_tail h.waiting)) i.1
move_present (to_operate at o ∷ k) h i = λ v. enough_at k _ _ (ap suc (length_tails h.waiting)) i.1
move_present (to_decide at j e ∷ k) h i = λ v. either_present (needed j (the_value (top h))) _ _
    (omega arith, enough_at k _ _ (ap suc (length_tail h.waiting)) i.1)
    (enough_at k _ _ (ap suc (length_tail h.waiting)) i.1)
move_present (to_index taken at w low high s ∷ k) h i = λ v. enough_at k _ _ (ap suc (length_tails h.waiting)) i.1
move_present (to_select o ∷ k) h i = enough_at k _ _ (ap suc (length_tail h.waiting)) i.1
move_present (to_store at ∷ k) h i = λ v. enough_at k _ _ (length_tails h.waiting) i.1
move_present (to_write at a ∷ k) h i = λ v. (omega arith, enough_at k _ _ (length_tail h.waiting) i.1)
move_present (to_deliver a v ∷ k) h i = i.1
move_present (to_test at s xs ∷ k) h i = λ v. either_present (truth (the_value (top h))) _ _
    (omega arith, enough_at k _ _ (length_tail h.waiting) i.1)
    (omega arith, enough_at k _ _ (length_tail h.waiting) i.1)
move_present (to_while at q e s ∷ k) h i = λ v. either_present (truth (the_value (top h))) _ _
    (omega arith, (omega arith, (omega arith, enough_at k _ _ (length_tail h.waiting) i.1)))
    (enough_at k _ _ (length_tail h.waiting) i.1)
move_present (to_until at s q e ∷ k) h i = λ v. either_present (truth (the_value (top h))) _ _
    (enough_at k _ _ (length_tail h.waiting) i.1)
    (omega arith, enough_at k _ _ (length_tail h.waiting) i.1)
move_present (to_exit at s b l ∷ k) h i = λ v. either_present (truth (the_value (top h))) _ _
    (omega arith, (omega arith, enough_at k _ _ (length_tail h.waiting) i.1))
    (omega arith, enough_at k _ _ (length_tail h.waiting) i.1)
move_present (to_close ∷ k) h i = i.1
move_present (to_apply at p m ∷ k) h i = apply_present p at m k h i
move_present (to_call at p m ∷ k) h i = call_present p at m k h i
move_present (to_leave at ∷ k) h i = λ v. i.1
move_present (to_leave_with at r t ∷ k) h i = λ v. i.1

pub all_present_lem : AllPresent
all_present_lem = (move_present, λ P es. calls_keep Present move_present es (start P) (omega arith, tt))
