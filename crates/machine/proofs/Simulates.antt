-- The machine does what the program means. What a configuration still means is said task by task, and its next action is the first of that.
use Prim.{tt}
use Rattle.std.proofs.Common.{◌≡◌, ℕ, suc, ◌+◌, Bool, true, false, cond, List, [], ◌∷◌, ◌++◌, length, take, ℤ, nat_abs, Ok, Err, Result, sym, refl, ap, ◌∙◌, subst, arith}
use mathlib.Core.Path.{fun_ext}
use Rattle.fault.specs.declared.Trap.{Trap}
use Rattle.program.specs.Trees.{At, Expr, Designator, Actuals, Stmt, Arms, Parts, Procedure, Function}
use Rattle.program.specs.Types.{fits}
use Rattle.program.specs.Trees.Expr.{constant, value, register, unary, binary, junction, apply}
use Rattle.program.specs.Trees.Designator.{whole, element, part}
use Rattle.program.specs.Trees.Actuals.{no_more, a_value, a_variable}
use Rattle.program.specs.Trees.Stmt.{skip, seq, assign, offer, if, while, repeat, loop, call}
use Rattle.program.specs.Trees.Arms.{otherwise, arm}
use Rattle.program.specs.Trees.Parts.{ends, exits}
use Rattle.program.specs.Trees.Procedure.{procedure}
use Rattle.program.specs.Trees.Function.{function}
use Rattle.meaning.specs.Actions.{Item, Action, Cells, Line, Event, Run, Behaviour, stop, also, outcome, truth}
use Rattle.meaning.specs.Actions.Item.{val, ref}
use Rattle.meaning.specs.Actions.Action.{a_take, an_index, a_sign, an_operator, a_decision, a_test, a_store, a_write, a_leave, a_leave_with}
use Rattle.meaning.specs.Actions.Line.{was_given}
use Rattle.meaning.specs.Actions.Event.{step, give, took}
use Rattle.meaning.specs.Actions.State.{finished}
use Rattle.meaning.specs.Meaning.{M, Done, return, act, await, deliver, goes_on, if_fits, choose, eval, locate, actuals, exec, arms, turn, applied, called, ◌>>=◌, ◌>>◌, way, needed}
use Rattle.machine.specs.Machine.{Task, Held, Config, Next, the_value, the_cell, the_way, top, push, pop, pops, opens, closes, leaves, formals, then, how_many, next_take, next_select, next_apply, next_call, next_eval, next_locate, next_pass, next_exec, next_arms, next_turn, next_task, next_of, next, state_of, acted, answer, after, run, start}
use Rattle.machine.specs.Machine.Task.{to_eval, to_locate, to_pass, to_exec, to_arms, to_turn, to_take, to_receive, to_sign, to_operate, to_decide, to_index, to_select, to_store, to_write, to_deliver, to_test, to_while, to_until, to_exit, to_close, to_apply, to_call, to_leave, to_leave_with}
use Rattle.machine.specs.Machine.Next.{none, acts, awaits, offers}
use Rattle.machine.specs.Machine.Answer.{refused, went_on}
use Rattle.machine.specs.Theorems.{Simulates}
use Rattle.machine.proofs.Local.{while_turns, repeat_turns, loop_turns}

abbrev push_all : List Item → Held → Held
push_all [] h = h
push_all (i ∷ is) h = push i (push_all is h)

-- what a task means
abbrev perform : Task → Held → M Held
perform (to_eval e) h = do
  v ← eval (formals h) h.depth e
  return (push (val v) h)
perform (to_locate taken x) h = do
  c ← locate taken (formals h) h.depth x
  return (push (ref c (way x)) h)
perform (to_pass xs) h = do
  is ← actuals (formals h) h.depth xs []
  return (push_all is h)
perform (to_exec s) h = do
  exec (formals h) h.depth s
  return h
perform (to_arms xs) h = do
  arms (formals h) h.depth xs
  return h
perform (to_turn b l) h = λ k. turn (formals h) h.depth b (λ _. exec (formals h) (closes h).depth l (λ _. k (closes h))) (λ _. k (closes h))
perform (to_take at t) h = do
  v ← act at h.depth (a_take (the_cell (top h)) t)
  return (push (val v) (pop h))
perform (to_receive a t) h = do
  v ← await a t
  return (push (val v) h)
perform (to_sign at g) h = do
  v ← act at h.depth (a_sign g (the_value (top h)))
  return (push (val v) (pop h))
perform (to_operate at o) h = do
  v ← act at (pop h).depth (an_operator o (the_value (top (pop h))) (the_value (top h)))
  return (push (val v) (pop (pop h)))
perform (to_decide at j e) h = do
  let x = the_value (top h)
  act at (cond (needed j x) (pop h).depth (suc (pop h).depth)) (a_decision j x)
  v ← choose (needed j x) (eval (formals h) (pop h).depth e) (return x)
  return (push (val v) (pop h))
perform (to_index taken at w low high s) h = do
  c ← act at (cond taken (pop (pop h)).depth (pop h).depth) (an_index (the_cell (top (pop h))) w low high s (the_value (top h)))
  return (push (ref (nat_abs c) (the_way (top (pop h)))) (pop (pop h)))
perform (to_select o) h = return (push (ref (the_cell (top h) + o) (the_way (top h))) (pop h))
perform (to_store at) h = do
  act at (pop (pop h)).depth (a_store (the_way (top (pop h))) (the_cell (top (pop h))) (the_value (top h)))
  return (pop (pop h))
perform (to_write at a) h = do
  act at (closes (pop h)).depth (a_write a (the_value (top h)))
  deliver a (the_value (top h))
  return (closes (pop h))
perform (to_deliver a v) h = do
  deliver a v
  return h
perform (to_test at s xs) h = do
  act at (pop h).depth (a_test (the_value (top h)))
  choose (truth (the_value (top h))) (exec (formals h) (pop h).depth s) (arms (formals h) (pop h).depth xs)
  return (pop h)
perform (to_while at q e s) h = λ k. act q (pop h).depth (a_test (the_value (top h)))
    (λ _. choose (truth (the_value (top h))) (exec (formals h) (pop h).depth s >> (λ _. exec (formals h) (closes (pop h)).depth (while at q e s) (λ _. k (closes (pop h))))) (return (tt {0})) (λ _. k (closes (pop h))))
perform (to_until at s q e) h = λ k. act q (pop h).depth (a_test (the_value (top h)))
    (λ _. choose (truth (the_value (top h))) (return (tt {0})) (λ _. exec (formals h) (closes (pop h)).depth (repeat at s q e) (λ _. k (closes (pop h)))) (λ _. k (closes (pop h))))
perform (to_exit at s b l) h = λ k. act at (pop h).depth (a_test (the_value (top h)))
    (λ _. choose (truth (the_value (top h))) (exec (formals h) (pop h).depth s) (turn (formals h) (pop h).depth b (λ _. exec (formals h) (closes (pop h)).depth l (λ _. k (closes (pop h))))) (λ _. k (closes (pop h))))
perform to_close h = return (closes h)
perform (to_apply at p n) h = do
  v ← applied p (pops n h).depth at (take n h.waiting)
  return (push (val v) (pops n h))
perform (to_call at p n) h = do
  called p (pops n h).depth at (take n h.waiting)
  return (pops n h)
perform (to_leave at) h = do
  act at (leaves h).depth a_leave
  return (leaves h)
perform (to_leave_with at result t) h = do
  v ← act at (suc (leaves h).depth) (a_leave_with result t)
  return (push (val v) (leaves h))

abbrev resume : List Task → Held → Behaviour
resume [] h es = stop finished
resume (t ∷ k) h es = perform t h (resume k) es

abbrev resumes : Config → Behaviour
resumes c = resume c.tasks c.held

abbrev behaves : Next → Behaviour
behaves none es = stop finished
behaves (acts at d a c) es = act at d a (λ v. resumes (c v)) es
behaves (awaits a t c) es = await a t (λ v. resumes (c v)) es
behaves (offers a v c) es = deliver a v (λ _. resumes c) es

-- actuals: what they are put before stays below, and they are as many as there are arguments
actuals_above : (ls : List ℕ) (xs : Actuals) (d : ℕ) (is js : List Item) (k : List Item → Behaviour)
    → actuals ls d xs (is ++ js) k ≡ actuals ls d xs is (λ ks. k (ks ++ js))
actuals_above ls no_more d is js k = refl
actuals_above ls (a_value e xs) d is js k = λ z. eval ls d e (λ v. actuals_above ls xs (suc d) (val v ∷ is) js k z)
actuals_above ls (a_variable x xs) d is js k = λ z. locate false ls d x (λ c. actuals_above ls xs (suc d) (ref c (way x) ∷ is) js k z)

actuals_count : (ls : List ℕ) (xs : Actuals) (d : ℕ) (is : List Item) (k k' : List Item → Behaviour)
    → ((js : List Item) → length js ≡ how_many xs + length is → k js ≡ k' js) → actuals ls d xs is k ≡ actuals ls d xs is k'
actuals_count ls no_more d is k k' h = h is (omega arith)
actuals_count ls (a_value e xs) d is k k' h = λ z. eval ls d e (λ v. actuals_count ls xs (suc d) (val v ∷ is) k k' (λ js l. h js (omega arith)) z)
actuals_count ls (a_variable x xs) d is k k' h =
    λ z. locate false ls d x (λ c. actuals_count ls xs (suc d) (ref c (way x) ∷ is) k k' (λ js l. h js (omega arith)) z)

push_all_above : (is : List Item) (i : Item) (h : Held) → push_all (is ++ (i ∷ [])) h ≡ push_all is (push i h)
push_all_above [] i h = refl
push_all_above (j ∷ is) i h = ap (push j) (push_all_above is i h)

pops_all : (is : List Item) (h : Held) → pops (length is) (push_all is h) ≡ h
pops_all [] h = refl
pops_all (i ∷ is) h = pops_all is h

takes_all : (is : List Item) (h : Held) → take (length is) (push_all is h).waiting ≡ is
takes_all [] h = refl
takes_all (i ∷ is) h = ap (λ is. i ∷ is) (takes_all is h)

one_more : (ls : List ℕ) (xs : Actuals) (d : ℕ) (i : Item) (h : Held) (k : Held → Behaviour)
    → actuals ls d xs (i ∷ []) (λ is. k (push_all is h)) ≡ actuals ls d xs [] (λ is. k (push_all is (push i h)))
one_more ls xs d i h k =
    actuals_above ls xs d [] (i ∷ []) (λ is. k (push_all is h)) ∙ λ z. actuals ls d xs [] (λ is. k (push_all_above is i h z))

-- the call of a part that waits until its actuals have been passed
passing : (P : ℕ → List Item → Held → Behaviour) (xs : Actuals) (h : Held)
    → actuals (formals h) h.depth xs [] (λ is. P h.depth is h)
    ≡ actuals (formals h) h.depth xs [] (λ is. P (pops (how_many xs) (push_all is h)).depth (take (how_many xs) (push_all is h).waiting) (pops (how_many xs) (push_all is h)))
passing P xs h = actuals_count (formals h) xs h.depth [] _ _ λ js l.
    let e : length js ≡ how_many xs = omega arith in
    subst (λ n. P h.depth js h ≡ P (pops n (push_all js h)).depth (take n (push_all js h).waiting) (pops n (push_all js h))) e
    (λ z. P (sym (pops_all js h) z).depth (sym (takes_all js h) z) (sym (pops_all js h) z))

apply_next : (p : Function) (at : At) (n : ℕ) (k : List Task) (h : Held) → perform (to_apply at p n) h (resume k) ≡ behaves (next_apply p at n k h)
apply_next (function m fs r t vs body) at n k h = refl

call_next : (p : Procedure) (at : At) (n : ℕ) (k : List Task) (h : Held) → perform (to_call at p n) h (resume k) ≡ behaves (next_call p at n k h)
call_next (procedure m fs vs body) at n k h = refl

mutual
  eval_next : (e : Expr) (k : List Task) (h : Held) → perform (to_eval e) h (resume k) ≡ behaves (next_eval e k h)
  eval_next (constant at u v) k h = refl
  eval_next (value at t x) k h = locate_next true x (to_take at t ∷ k) (next_take at t k) (λ h. refl) h
  eval_next (register at t a) k h = refl
  eval_next (unary at g e) k h = eval_next e (to_sign at g ∷ k) h
  eval_next (binary at o t a b) k h = eval_next a (to_eval b ∷ to_operate at o ∷ k) h
  eval_next (junction at j a b) k h = eval_next a (to_decide at j b ∷ k) h
  eval_next (apply at p xs) k h =
      passing (λ d is h. applied p d at is (λ v. resume k (push (val v) h))) xs h
      ∙ pass_next xs (to_apply at p (how_many xs) ∷ k) (next_apply p at (how_many xs) k) (apply_next p at (how_many xs) k) h

  locate_next : (taken : Bool) (x : Designator) (k : List Task) (r : Held → Next) → ((h : Held) → resume k h ≡ behaves (r h))
      → (h : Held) → perform (to_locate taken x) h (resume k) ≡ behaves (next_locate taken x k r h)
  locate_next taken (whole n) k r q h = q _
  locate_next taken (element at x w low high s e) k r q h =
      locate_next false x (to_eval e ∷ to_index taken at w low high s ∷ k) (next_eval e (to_index taken at w low high s ∷ k)) (eval_next e (to_index taken at w low high s ∷ k)) h
  locate_next taken (part at x w fs o) k r q h = locate_next taken x (to_select o ∷ k) (next_select o r) (λ h. q _) h

  pass_next : (xs : Actuals) (k : List Task) (r : Held → Next) → ((h : Held) → resume k h ≡ behaves (r h))
      → (h : Held) → perform (to_pass xs) h (resume k) ≡ behaves (next_pass xs k r h)
  pass_next no_more k r q h = q h
  pass_next (a_value e xs) k r q h =
      (λ z. eval (formals h) h.depth e (λ v. one_more (formals h) xs (suc h.depth) (val v) h (resume k) z)) ∙ eval_next e (to_pass xs ∷ k) h
  pass_next (a_variable x xs) k r q h =
      (λ z. locate false (formals h) h.depth x (λ c. one_more (formals h) xs (suc h.depth) (ref c (way x)) h (resume k) z))
      ∙ locate_next false x (to_pass xs ∷ k) (next_pass xs k r) (pass_next xs k r q) h

mutual
  exec_next : (s : Stmt) (k : List Task) (r : Held → Next) → ((h : Held) → resume k h ≡ behaves (r h))
      → (h : Held) → perform (to_exec s) h (resume k) ≡ behaves (next_exec s k r h)
  exec_next skip k r q h = q h
  exec_next (seq a b) k r q h = exec_next a (to_exec b ∷ k) (next_exec b k r) (exec_next b k r q) h
  exec_next (assign at t x e) k r q h = locate_next false x (to_eval e ∷ to_store at ∷ k) (next_eval e (to_store at ∷ k)) (eval_next e (to_store at ∷ k)) h
  exec_next (offer at t a e) k r q h = eval_next e (to_write at a ∷ k) (opens h)
  exec_next (if xs) k r q h = arms_next xs (to_close ∷ k) (λ h. r (closes h)) (λ h. q (closes h)) (opens h)
  exec_next (while at p e s) k r q h = fun_ext (while_turns (formals h) h.depth at p e s (λ _. resume k h))
  exec_next (repeat at s p e) k r q h = fun_ext (repeat_turns (formals h) h.depth at s p e (λ _. resume k h))
  exec_next (loop at b) k r q h = fun_ext (loop_turns (formals h) h.depth at b (λ _. resume k h))
  exec_next (call at p xs) k r q h =
      passing (λ d is h. called p d at is (λ _. resume k h)) xs h
      ∙ pass_next xs (to_call at p (how_many xs) ∷ k) (next_call p at (how_many xs) k) (call_next p at (how_many xs) k) h

  arms_next : (xs : Arms) (k : List Task) (r : Held → Next) → ((h : Held) → resume k h ≡ behaves (r h))
      → (h : Held) → perform (to_arms xs) h (resume k) ≡ behaves (next_arms xs k r h)
  arms_next (otherwise s) k r q h = exec_next s k r q h
  arms_next (arm at e s xs) k r q h = eval_next e (to_test at s xs ∷ k) h

turn_next : (b : Parts) (l : Stmt) (k : List Task) (r : Held → Next) → ((h : Held) → resume k h ≡ behaves (r h))
    → (h : Held) → perform (to_turn b l) h (resume k) ≡ behaves (next_turn b l k r h)
turn_next (ends s) l k r q h = exec_next s (to_close ∷ to_exec l ∷ k) (λ h. next_exec l k r (closes h)) (λ h. exec_next l k r q (closes h)) h
turn_next (exits s at e s' b) l k r q h =
    exec_next s (to_eval e ∷ to_exit at s' b l ∷ k) (next_eval e (to_exit at s' b l ∷ k)) (eval_next e (to_exit at s' b l ∷ k)) h

-- a test that came out so or so
decided : (b : Bool) (e : Expr) (k : List Task) (h : Held) (v : ℤ)
    → choose b (eval (formals h) h.depth e) (return v) (λ v. resume k (push (val v) h)) ≡ resumes (cond b (then (to_eval e ∷ k) h) (then k (push (val v) h)))
decided true e k h v = refl
decided false e k h v = refl

act_then : (at : At) (d : ℕ) (a : Action) (k k' : ℤ → Behaviour) → ((v : ℤ) → k v ≡ k' v) → act at d a k ≡ act at d a k'
act_then at d a k k' h = λ z. act at d a (λ v. h v z)

-- the next of either way
either : (b : Bool) (m n : M Done) (k : Done → Behaviour) (c c' : Config)
    → m k ≡ resumes c → n k ≡ resumes c' → choose b m n k ≡ resumes (cond b c c')
either true m n k c c' p q = p
either false m n k c c' p q = q

task_next : (t : Task) (k : List Task) (r : Held → Next) → ((h : Held) → resume k h ≡ behaves (r h))
    → (h : Held) → perform t h (resume k) ≡ behaves (next_task t k r h)
task_next (to_eval e) k r q h = eval_next e k h
task_next (to_locate taken x) k r q h = locate_next taken x k r q h
task_next (to_pass xs) k r q h = pass_next xs k r q h
task_next (to_exec s) k r q h = exec_next s k r q h
task_next (to_arms xs) k r q h = arms_next xs k r q h
task_next (to_turn b l) k r q h = turn_next b l k r q h
task_next (to_take at t) k r q h = refl
task_next (to_receive a t) k r q h = refl
task_next (to_sign at g) k r q h = refl
task_next (to_operate at o) k r q h = refl
task_next (to_decide at j e) k r q h = act_then at _ _ _ _ (λ _. decided (needed j (the_value (top h))) e k (pop h) (the_value (top h)))
task_next (to_index taken at w low high s) k r q h = refl
task_next (to_select o) k r q h = q _
task_next (to_store at) k r q h = refl
task_next (to_write at a) k r q h = refl
task_next (to_deliver a v) k r q h = refl
task_next (to_test at s xs) k r q h = act_then at _ _ _ _ (λ _. either (truth (the_value (top h))) _ _ (λ _. resume k (pop h)) (then (to_exec s ∷ k) (pop h)) (then (to_arms xs ∷ k) (pop h)) refl refl)
task_next (to_while at p e s) k r q h = act_then p _ _ _ _ (λ _. either (truth (the_value (top h))) _ _ (λ _. resume k (closes (pop h))) (then (to_exec s ∷ to_close ∷ to_exec (while at p e s) ∷ k) (pop h)) (then k (closes (pop h))) refl refl)
task_next (to_until at s p e) k r q h = act_then p _ _ _ _ (λ _. either (truth (the_value (top h))) _ _ (λ _. resume k (closes (pop h))) (then k (closes (pop h))) (then (to_exec (repeat at s p e) ∷ k) (closes (pop h))) refl refl)
task_next (to_exit at s b l) k r q h = act_then at _ _ _ _ (λ _. either (truth (the_value (top h))) _ _ (λ _. resume k (closes (pop h))) (then (to_exec s ∷ to_close ∷ k) (pop h)) (then (to_turn b l ∷ k) (pop h)) refl refl)
task_next to_close k r q h = q (closes h)
task_next (to_apply at p n) k r q h = apply_next p at n k h
task_next (to_call at p n) k r q h = call_next p at n k h
task_next (to_leave at) k r q h = refl
task_next (to_leave_with at result t) k r q h = refl

resume_next : (k : List Task) (h : Held) → resume k h ≡ behaves (next_of k h)
resume_next [] h = refl
resume_next (t ∷ k) h = task_next t k (next_of k) (resume_next k) h

idle : (n : Next) → stop (state_of n) ≡ behaves n []
unfolding act await deliver
idle none = refl
idle (acts at d a c) = refl
idle (awaits a t c) = refl
idle (offers a v c) = refl

went : (k : Config → Run) (es : List Event) → ((c : Config) → k c ≡ resumes c es) → (c₀ : Config)
    → (at : At) (d : ℕ) (a : Action) (c : ℤ → Config) (σ : Cells) (r : Result ℤ Trap)
    → after k c₀ (acted at d a c σ r) ≡ goes_on at d a σ (λ v. resumes (c v) es) r
went k es q c₀ at d a c σ (Ok v) = ap (also _) (q (c v))
went k es q c₀ at d a c σ (Err p) = refl

given : (k : Config → Run) (es : List Event) → ((c : Config) → k c ≡ resumes c es) → (c₀ c : Config) (l : Line) (b : Bool) (r : Run) → k c₀ ≡ r
    → after k c₀ (cond b (went_on l c) refused) ≡ if_fits b (also l (resumes c es)) r
given k es q c₀ c l true r p = ap (also l) (q c)
given k es q c₀ c l false r p = p

-- what a call does is what it means: `same` is for a call that is refused
one_call : (k : Config → Run) (es : List Event) → ((c : Config) → k c ≡ resumes c es) → (c : Config) (n : Next) → k c ≡ behaves n es
    → (e : Event) → after k c (answer n e) ≡ behaves n (e ∷ es)
unfolding act await deliver
one_call k es q c none same e = same
one_call k es q c (acts at d a c') same (step σ) = went k es q c at d a c' σ (outcome d a σ)
one_call k es q c (acts at d a c') same (give v) = same
one_call k es q c (acts at d a c') same took = same
one_call k es q c (awaits a t c') same (step σ) = same
one_call k es q c (awaits a t c') same (give v) = given k es q c (c' v) (was_given a t v) (fits t v) _ same
one_call k es q c (awaits a t c') same took = same
one_call k es q c (offers a v c') same (step σ) = same
one_call k es q c (offers a v c') same (give w) = same
one_call k es q c (offers a v c') same took = q c'

run_resumes : (es : List Event) (c : Config) → run c es ≡ resumes c es
run_resumes [] c = idle (next c) ∙ ap (λ b. b []) (sym (resume_next c.tasks c.held))
run_resumes (e ∷ es) c =
    one_call (λ c. run c es) es (run_resumes es) c (next c) (run_resumes es c ∙ ap (λ b. b es) (resume_next c.tasks c.held)) e
    ∙ ap (λ b. b (e ∷ es)) (sym (resume_next c.tasks c.held))

pub simulates : Simulates
simulates P es = run_resumes es (start P)
