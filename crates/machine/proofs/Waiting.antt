-- No move and no call lets more wait than was reckoned.
use Prim.{tt}
use Rattle.std.proofs.Common.{◌≡◌, ℕ, zero, suc, ◌+◌, ◌≤◌, max, Bool, true, false, cond, List, [], ◌∷◌, length, sym, refl, ap, ◌∙◌, subst, arith}
use mathlib.Core.List.{tail}
use Rattle.program.specs.Trees.{At, Expr, Designator, Actuals, Stmt, Arms, Parts, Procedure, Function}
use Rattle.program.specs.Trees.Expr.{constant, value, register, unary, binary, junction, apply}
use Rattle.program.specs.Trees.Designator.{whole, element, part}
use Rattle.program.specs.Trees.Actuals.{no_more, a_value, a_variable}
use Rattle.program.specs.Trees.Stmt.{skip, seq, assign, offer, if, while, repeat, loop, call}
use Rattle.program.specs.Trees.Arms.{otherwise, arm}
use Rattle.program.specs.Trees.Parts.{ends, exits}
use Rattle.program.specs.Trees.Procedure.{procedure}
use Rattle.program.specs.Trees.Function.{function}
use Rattle.meaning.specs.Actions.{truth}
use Rattle.meaning.specs.Meaning.{moved, needed}
use Rattle.machine.specs.Machine.{Task, Held, Config, one_less, the_value, top, pop, pops, then, start, how_many, next_apply, next_call}
use Rattle.machine.specs.Machine.Task.{to_eval, to_locate, to_pass, to_exec, to_arms, to_turn, to_take, to_receive, to_sign, to_operate, to_decide, to_index, to_select, to_store, to_write, to_deliver, to_test, to_while, to_until, to_exit, to_close, to_apply, to_call, to_leave, to_leave_with}
use Rattle.machine.specs.Moves.{After, AfterMove, KeptByMoves, move_eval, move_locate, move_pass, move_exec, move_arms, move_turn}
use Rattle.machine.specs.Waiting.{expr_waits, actuals_waits, stmt_waits, parts_waits, procedure_waits, function_waits, more_by, less_by, reach, waits, Few}
use Rattle.machine.specs.Theorems.{FewWait}
use Rattle.machine.proofs.Keeps.{calls_keep}

-- lists that get shorter
pub length_tail : {A : Type 0} (l : List A) → length (tail l) ≡ one_less (length l)
length_tail [] = refl
length_tail (x ∷ l) = refl

pub length_tails : {A : Type 0} (l : List A) → length (tail (tail l)) ≡ one_less (one_less (length l))
length_tails l = length_tail (tail l) ∙ ap one_less (length_tail l)

less_before : (n w : ℕ) → less_by n (one_less w) ≡ one_less (less_by n w)
less_before zero w = refl
less_before (suc n) w = ap one_less (less_before n w)

pub length_pops : (n : ℕ) (h : Held) → length (pops n h).waiting ≡ less_by n (length h.waiting)
length_pops zero h = refl
length_pops (suc n) h = length_pops n (pop h) ∙ ap (less_by n) (length_tail h.waiting) ∙ less_before n (length h.waiting)

-- n more and then n fewer
pub more_less : (n w : ℕ) → less_by n (more_by n w) ≡ w
more_less zero w = refl
more_less (suc n) w = ap one_less (more_less n (suc w))

one_below : (w : ℕ) → (one_less w ≤ w) × (w ≤ suc (one_less w))
one_below zero = (omega arith, omega arith)
one_below (suc w) = (omega arith, omega arith)

-- bounds on the greater of two
under : (a b n : ℕ) → a ≤ n → b ≤ n → max a b ≤ n
under a b n p q = omega arith

first_under : (a b n : ℕ) → max a b ≤ n → a ≤ n
first_under a b n p = omega arith

second_under : (a b n : ℕ) → max a b ≤ n → b ≤ n
second_under a b n p = omega arith

-- what is left after an action
few_at : (n : ℕ) (k : List Task) (w v : ℕ) → w ≡ v → v ≤ n → reach k v ≤ n → (w ≤ n) × (reach k w ≤ n)
few_at n k w v e p q = (subst (λ x. x ≤ n) (sym e) p, subst (λ x. reach k x ≤ n) (sym e) q)

eval_few : (n : ℕ) (e : Expr) (k : List Task) (h : Held) → Few n (then (to_eval e ∷ k) h) → AfterMove (Few n) (move_eval e k h)
eval_few n (constant at u v) k h i = λ v. omega arith
eval_few n (value at t x) k h i = omega arith
eval_few n (register at t a) k h i = λ v. omega arith
eval_few n (unary at g e) k h i = omega arith
eval_few n (binary at o t a b) k h i = omega arith
eval_few n (junction at j a b) k h i = omega arith
eval_few n (apply at p xs) k h i =
    let w = length h.waiting in
    let a = first_under _ _ n i.1 in
    let b = second_under _ _ n i.1 in (
      i.0,
      under _ _ n (let q : w + actuals_waits xs ≤ n = omega (arith, a) in q)
          (under _ _ n (subst (λ x. x + max 1 (function_waits p) ≤ n) (sym (more_less (how_many xs) w)) (let q : w + max 1 (function_waits p) ≤ n = omega (arith, a) in q))
          (subst (λ x. reach k (suc x) ≤ n) (sym (more_less (how_many xs) w)) b)),
    )

locate_few : (n : ℕ) (taken : Bool) (x : Designator) (k : List Task) (h : Held) → Few n (then (to_locate taken x ∷ k) h) → AfterMove (Few n) (move_locate taken x k h)
locate_few n taken (whole m) k h i = omega arith
locate_few n taken (element at x w low high s e) k h i = omega arith
locate_few n taken (part at x w fs o) k h i = omega arith

pass_few : (n : ℕ) (xs : Actuals) (k : List Task) (h : Held) → Few n (then (to_pass xs ∷ k) h) → AfterMove (Few n) (move_pass xs k h)
pass_few n no_more k h i = omega arith
pass_few n (a_value e xs) k h i = omega arith
pass_few n (a_variable x xs) k h i = omega arith

exec_few : (n : ℕ) (s : Stmt) (k : List Task) (h : Held) → Few n (then (to_exec s ∷ k) h) → AfterMove (Few n) (move_exec s k h)
exec_few n skip k h i = omega arith
exec_few n (seq a b) k h i = omega arith
exec_few n (assign at t x e) k h i = omega arith
exec_few n (offer at t a e) k h i = omega arith
exec_few n (if xs) k h i = omega arith
exec_few n (while at q e s) k h i = λ v. omega arith
exec_few n (repeat at s q e) k h i = λ v. omega arith
exec_few n (loop at b) k h i = λ v. omega arith
exec_few n (call at p xs) k h i =
    let w = length h.waiting in
    let a = first_under _ _ n i.1 in
    let b = second_under _ _ n i.1 in (
      i.0,
      under _ _ n (let q : w + actuals_waits xs ≤ n = omega (arith, a) in q)
          (under _ _ n (subst (λ x. x + procedure_waits p ≤ n) (sym (more_less (how_many xs) w)) (let q : w + procedure_waits p ≤ n = omega (arith, a) in q))
          (subst (λ x. reach k x ≤ n) (sym (more_less (how_many xs) w)) b)),
    )

arms_few : (n : ℕ) (xs : Arms) (k : List Task) (h : Held) → Few n (then (to_arms xs ∷ k) h) → AfterMove (Few n) (move_arms xs k h)
arms_few n (otherwise s) k h i = omega arith
arms_few n (arm at e s xs) k h i = omega arith

-- of what waits in the parts of a `when`, what waits in those that are left at its test
when_waits : (s e x b l : ℕ) → max x (max b l) ≤ max (max s (max e (max x b))) l
when_waits s e x b l = under x (max b l) _ (omega arith) (under b l _ (omega arith) (omega arith))

when_few : (n w s e x b l r : ℕ) → w + max (max s (max e (max x b))) l ≤ n → r ≤ n
    → max (w + s) (max (w + e) (max (w + max x (max b l)) r)) ≤ n
when_few n w s e x b l r h q =
    let p : s ≤ max (max s (max e (max x b))) l = omega arith in
    let o : e ≤ max (max s (max e (max x b))) l = omega arith in
    sums (max (max s (max e (max x b))) l) (max x (max b l)) h (when_waits s e x b l) p o
  where
    sums : (m y : ℕ) → w + m ≤ n → y ≤ m → s ≤ m → e ≤ m → max (w + s) (max (w + e) (max (w + y) r)) ≤ n
    sums m y h z p o = omega arith

turn_few : (n : ℕ) (b : Parts) (l : Stmt) (k : List Task) (h : Held) → Few n (then (to_turn b l ∷ k) h) → AfterMove (Few n) (move_turn b l k h)
turn_few n (ends s) l k h i = omega arith
turn_few n (exits s at e s' b) l k h i = (
  i.0,
  when_few n (length h.waiting) (stmt_waits s) (expr_waits e) (stmt_waits s') (parts_waits b) (stmt_waits l) (reach k (length h.waiting))
      (first_under _ _ n i.1) (second_under _ _ n i.1),
)

-- a test that comes out so or so
either_few : (b : Bool) (n : ℕ) (c c' : Config) → Few n c → Few n c' → Few n (cond b c c')
either_few true n c c' p q = p
either_few false n c c' p q = q

apply_few : (n : ℕ) (p : Function) (at : At) (m : ℕ) (k : List Task) (h : Held) → Few n (then (to_apply at p m ∷ k) h) → After (Few n) (next_apply p at m k h)
apply_few n (function u fs r t vs body) at m k h i = λ v.
    few_at n (to_exec body ∷ to_leave_with (moved at u) r.cell t ∷ k) _ (less_by m (length h.waiting)) (length_pops m h) (omega arith) (omega arith)

call_few : (n : ℕ) (p : Procedure) (at : At) (m : ℕ) (k : List Task) (h : Held) → Few n (then (to_call at p m ∷ k) h) → After (Few n) (next_call p at m k h)
call_few n (procedure u fs vs body) at m k h i = λ v.
    few_at n (to_exec body ∷ to_leave (moved at u) ∷ k) _ (less_by m (length h.waiting)) (length_pops m h) (omega arith) (omega arith)

move_few : (n : ℕ) → KeptByMoves (Few n)
move_few n [] h i = tt
move_few n (to_eval e ∷ k) h i = eval_few n e k h i
move_few n (to_locate taken x ∷ k) h i = locate_few n taken x k h i
move_few n (to_pass xs ∷ k) h i = pass_few n xs k h i
move_few n (to_exec s ∷ k) h i = exec_few n s k h i
move_few n (to_arms xs ∷ k) h i = arms_few n xs k h i
move_few n (to_turn b l ∷ k) h i = turn_few n b l k h i
move_few n (to_take at t ∷ k) h i = λ v. few_at n k _ _ (ap suc (length_tail h.waiting)) (omega arith) (omega arith)
move_few n (to_receive a t ∷ k) h i = λ v. omega arith
move_few n (to_sign at g ∷ k) h i = λ v. few_at n k _ _ (ap suc (length_tail h.waiting)) (omega arith) (omega arith)
move_few n (to_operate at o ∷ k) h i = λ v. few_at n k _ _ (ap suc (length_tails h.waiting)) (omega arith) (omega arith)
move_few n (to_decide at j e ∷ k) h i = λ v. either_few (needed j (the_value (top h))) n _ _
    (few_at n (to_eval e ∷ k) _ _ (length_tail h.waiting) (omega arith) (omega arith))
    (few_at n k _ _ (ap suc (length_tail h.waiting)) (omega arith) (omega arith))
move_few n (to_index taken at w low high s ∷ k) h i = λ v. few_at n k _ _ (ap suc (length_tails h.waiting)) (omega arith) (omega arith)
move_few n (to_select o ∷ k) h i = few_at n k _ _ (ap suc (length_tail h.waiting)) (omega arith) (omega arith)
move_few n (to_store at ∷ k) h i = λ v. few_at n k _ _ (length_tails h.waiting) (omega arith) (omega arith)
move_few n (to_write at a ∷ k) h i = λ v. few_at n (to_deliver a (the_value (top h)) ∷ k) _ _ (length_tail h.waiting) (omega arith) (omega arith)
move_few n (to_deliver a v ∷ k) h i = omega arith
move_few n (to_test at s xs ∷ k) h i = λ v. either_few (truth (the_value (top h))) n _ _
    (few_at n (to_exec s ∷ k) _ _ (length_tail h.waiting) (omega arith) (omega arith))
    (few_at n (to_arms xs ∷ k) _ _ (length_tail h.waiting) (omega arith) (omega arith))
move_few n (to_while at q e s ∷ k) h i = λ v. either_few (truth (the_value (top h))) n _ _
    (few_at n (to_exec s ∷ to_close ∷ to_exec (while at q e s) ∷ k) _ _ (length_tail h.waiting) (omega arith) (omega arith))
    (few_at n k _ _ (length_tail h.waiting) (omega arith) (omega arith))
move_few n (to_until at s q e ∷ k) h i = λ v. either_few (truth (the_value (top h))) n _ _
    (few_at n k _ _ (length_tail h.waiting) (omega arith) (omega arith))
    (few_at n (to_exec (repeat at s q e) ∷ k) _ _ (length_tail h.waiting) (omega arith) (omega arith))
move_few n (to_exit at s b l ∷ k) h i = λ v. either_few (truth (the_value (top h))) n _ _
    (few_at n (to_exec s ∷ to_close ∷ k) _ _ (length_tail h.waiting) (omega arith) (omega arith))
    (few_at n (to_turn b l ∷ k) _ _ (length_tail h.waiting) (omega arith) (omega arith))
move_few n (to_close ∷ k) h i = omega arith
move_few n (to_apply at p m ∷ k) h i = apply_few n p at m k h i
move_few n (to_call at p m ∷ k) h i = call_few n p at m k h i
move_few n (to_leave at ∷ k) h i = λ v. omega arith
move_few n (to_leave_with at r t ∷ k) h i = λ v. omega arith

pub few_wait_lem : FewWait
few_wait_lem = (move_few, λ P es. calls_keep (Few (waits P)) (move_few (waits P)) es (start P) (omega arith, omega arith))
