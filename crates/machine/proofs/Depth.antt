-- The depth is kept, move by move, as what waits and what is open.
use Prim.{Unit, tt, absurd}
use Rattle.std.proofs.Common.{◌≡◌, ℕ, zero, suc, ◌+◌, ◌≤◌, Bool, true, false, cond, ◌⊎◌, List, [], ◌∷◌, length, sym, refl, ap, subst, inl, inr, arith}
use mathlib.Core.List.{tail}
use Rattle.program.specs.Trees.{At, Expr, Designator, Actuals, Stmt, Arms, Parts, Procedure, Function}
use Rattle.program.specs.Trees.Expr.{constant, value, register, unary, binary, junction, apply}
use Rattle.program.specs.Trees.Designator.{whole, element, part}
use Rattle.program.specs.Trees.Actuals.{no_more, a_value, a_variable}
use Rattle.program.specs.Trees.Stmt.{skip, seq, assign, offer, if, while, repeat, loop, call}
use Rattle.program.specs.Trees.Arms.{otherwise, arm}
use Rattle.program.specs.Trees.Parts.{ends, exits}
use Rattle.program.specs.Trees.Procedure.{procedure}
use Rattle.program.specs.Trees.Function.{function}
use Rattle.meaning.specs.Actions.{truth}
use Rattle.meaning.specs.Meaning.{needed}
use Rattle.machine.specs.Machine.{Task, Held, Config, Next, Now, one_less, the_value, top, pop, pops, then, start, arrives, next_apply, next_call}
use Rattle.machine.specs.Machine.Task.{to_eval, to_locate, to_pass, to_exec, to_arms, to_turn, to_take, to_receive, to_sign, to_operate, to_decide, to_index, to_select, to_store, to_write, to_deliver, to_test, to_while, to_until, to_exit, to_close, to_apply, to_call, to_leave, to_leave_with}
use Rattle.machine.specs.Machine.Next.{none, acts, awaits, offers}
use Rattle.machine.specs.Machine.Now.{there, fallen}
use Rattle.machine.specs.Moves.Move.{rests, moves}
use Rattle.machine.specs.Moves.{Move, move, move_eval, move_locate, move_pass, move_exec, move_arms, move_turn, weight, After, AfterMove, KeptByMoves, Holds}
use Rattle.machine.specs.Present.{Present}
use Rattle.machine.specs.Opened.{Covered}
use Rattle.machine.specs.Depth.{closer, closers, Reckoned, Tells, Steady, Deep}
use Rattle.machine.specs.Theorems.{DepthReckoned}
use Rattle.machine.proofs.Keeps.{calls_keep, next_has}
use Rattle.machine.proofs.Present.{move_present}
use Rattle.machine.proofs.Opened.{move_covered, pops_lents}

-- something on top of a list, and a depth above 0
shorter : {A : Type 0} (l : List A) → 1 ≤ length l → suc (length (tail l)) ≡ length l
shorter [] h = absurd (omega arith)
shorter (x ∷ l) h = refl

less : (n : ℕ) → 1 ≤ n → suc (one_less n) ≡ n
less zero h = absurd (omega arith)
less (suc n) h = refl

pops_less : (n : ℕ) (h : Held) → n ≤ length h.waiting → n ≤ h.depth
    → (n + length (pops n h).waiting ≡ length h.waiting) × (n + (pops n h).depth ≡ h.depth)
pops_less zero h p q = (omega arith, omega arith)
pops_less (suc n) h p q =
    let a = shorter h.waiting (omega arith) in let b = less h.depth (omega arith) in
    let r = pops_less n (pop h) (omega arith) (omega arith) in
    (omega (arith, a, r.0), omega (arith, b, r.1))

-- what is popped once, and twice
abbrev One : Held → Type 0
One h = (suc (length (tail h.waiting)) ≡ length h.waiting) × (suc (one_less h.depth) ≡ h.depth)

one : (h : Held) → 1 ≤ length h.waiting → 1 ≤ h.depth → One h
one h p q = (shorter h.waiting p, less h.depth q)

-- two are taken and one is put
two_less : (h : Held) (k : List Task) → 2 ≤ length h.waiting → h.depth ≡ length h.waiting + length h.lents + (0 + closers k)
    → suc (one_less (one_less h.depth)) ≡ suc (length (tail (tail h.waiting))) + length h.lents + closers k
two_less h k p i =
    let a = one h (omega arith) (omega arith) in
    let b = one (pop h) (omega (arith, a.0)) (omega (arith, a.1)) in omega (arith, a.0, a.1, b.0, b.1)

eval_reckoned : (e : Expr) (k : List Task) (h : Held) → Reckoned (then (to_eval e ∷ k) h) → AfterMove Reckoned (move_eval e k h)
eval_reckoned (constant at u v) k h i = λ v. omega arith
eval_reckoned (value at t x) k h i = omega arith
eval_reckoned (register at t a) k h i = λ v. omega arith
eval_reckoned (unary at g e) k h i = omega arith
eval_reckoned (binary at o t a b) k h i = omega arith
eval_reckoned (junction at j a b) k h i = omega arith
eval_reckoned (apply at p xs) k h i = omega arith

locate_reckoned : (taken : Bool) (x : Designator) (k : List Task) (h : Held) → Reckoned (then (to_locate taken x ∷ k) h) → AfterMove Reckoned (move_locate taken x k h)
locate_reckoned taken (whole m) k h i = omega arith
locate_reckoned taken (element at x w low high s e) k h i = omega arith
locate_reckoned taken (part at x w fs o) k h i = omega arith

pass_reckoned : (xs : Actuals) (k : List Task) (h : Held) → Reckoned (then (to_pass xs ∷ k) h) → AfterMove Reckoned (move_pass xs k h)
pass_reckoned no_more k h i = omega arith
pass_reckoned (a_value e xs) k h i = omega arith
pass_reckoned (a_variable x xs) k h i = omega arith

exec_reckoned : (s : Stmt) (k : List Task) (h : Held) → Reckoned (then (to_exec s ∷ k) h) → AfterMove Reckoned (move_exec s k h)
exec_reckoned skip k h i = omega arith
exec_reckoned (seq a b) k h i = omega arith
exec_reckoned (assign at t x e) k h i = omega arith
exec_reckoned (offer at t a e) k h i = omega arith
exec_reckoned (if xs) k h i = omega arith
exec_reckoned (while at q e s) k h i = λ v. omega arith
exec_reckoned (repeat at s q e) k h i = λ v. omega arith
exec_reckoned (loop at b) k h i = λ v. omega arith
exec_reckoned (call at p xs) k h i = omega arith

arms_reckoned : (xs : Arms) (k : List Task) (h : Held) → Reckoned (then (to_arms xs ∷ k) h) → AfterMove Reckoned (move_arms xs k h)
arms_reckoned (otherwise s) k h i = omega arith
arms_reckoned (arm at e s xs) k h i = omega arith

turn_reckoned : (b : Parts) (l : Stmt) (k : List Task) (h : Held) → Reckoned (then (to_turn b l ∷ k) h) → AfterMove Reckoned (move_turn b l k h)
turn_reckoned (ends s) l k h i = omega arith
turn_reckoned (exits s at e s' b) l k h i = omega arith

either_reckoned : (b : Bool) (c c' : Config) → Reckoned c → Reckoned c' → Reckoned (cond b c c')
either_reckoned true c c' p q = p
either_reckoned false c c' p q = q

apply_reckoned : (p : Function) (at : At) (m : ℕ) (k : List Task) (h : Held) → m ≤ length h.waiting → Reckoned (then (to_apply at p m ∷ k) h)
    → After Reckoned (next_apply p at m k h)
apply_reckoned (function u fs r t vs body) at m k h p i = λ v.
    let e = ap length (pops_lents m h) in let q = pops_less m h p (omega arith) in omega (arith, e, q.0, q.1)

call_reckoned : (p : Procedure) (at : At) (m : ℕ) (k : List Task) (h : Held) → m ≤ length h.waiting → Reckoned (then (to_call at p m ∷ k) h)
    → After Reckoned (next_call p at m k h)
call_reckoned (procedure u fs vs body) at m k h p i = λ v.
    let e = ap length (pops_lents m h) in let q = pops_less m h p (omega arith) in omega (arith, e, q.0, q.1)

move_reckoned : (k : List Task) (h : Held) → Present (then k h) → Covered (then k h) → Reckoned (then k h) → AfterMove Reckoned (move k h)
move_reckoned [] h p c i = tt
move_reckoned (to_eval e ∷ k) h p c i = eval_reckoned e k h i
move_reckoned (to_locate taken x ∷ k) h p c i = locate_reckoned taken x k h i
move_reckoned (to_pass xs ∷ k) h p c i = pass_reckoned xs k h i
move_reckoned (to_exec s ∷ k) h p c i = exec_reckoned s k h i
move_reckoned (to_arms xs ∷ k) h p c i = arms_reckoned xs k h i
move_reckoned (to_turn b l ∷ k) h p c i = turn_reckoned b l k h i
move_reckoned (to_take at t ∷ k) h p c i = λ v. let a = one h p.0 (omega (arith, p.0)) in omega (arith, a.0, a.1)
move_reckoned (to_receive a t ∷ k) h p c i = λ v. omega arith
move_reckoned (to_sign at g ∷ k) h p c i = λ v. let a = one h p.0 (omega (arith, p.0)) in omega (arith, a.0, a.1)
move_reckoned (to_operate at o ∷ k) h p c i = λ v. two_less h k p.0 i
move_reckoned (to_decide at j e ∷ k) h p c i = λ v.
    let a = one h p.0 (omega (arith, p.0)) in
    either_reckoned (needed j (the_value (top h))) _ _ (omega (arith, a.0, a.1)) (omega (arith, a.0, a.1))
move_reckoned (to_index taken at w low high s ∷ k) h p c i = λ v. two_less h k p.0 i
move_reckoned (to_select o ∷ k) h p c i = let a = one h p.0 (omega (arith, p.0)) in omega (arith, a.0, a.1)
move_reckoned (to_store at ∷ k) h p c i = λ v. let e = two_less h k p.0 i in omega (arith, e)
move_reckoned (to_write at b ∷ k) h p c i = λ v.
    let a = one h p.0 (omega (arith, p.0)) in let d = less (one_less h.depth) (omega (arith, a.0, a.1)) in omega (arith, a.0, a.1, d)
move_reckoned (to_deliver a v ∷ k) h p c i = omega arith
move_reckoned (to_test at s xs ∷ k) h p c i = λ v.
    let a = one h p.0 (omega (arith, p.0)) in
    either_reckoned (truth (the_value (top h))) _ _ (omega (arith, a.0, a.1)) (omega (arith, a.0, a.1))
move_reckoned (to_while at q e s ∷ k) h p c i = λ v.
    let a = one h p.0 (omega (arith, p.0)) in let d = less (one_less h.depth) (omega (arith, a.0, a.1)) in
    either_reckoned (truth (the_value (top h))) _ _ (omega (arith, a.0, a.1)) (omega (arith, a.0, a.1, d))
move_reckoned (to_until at s q e ∷ k) h p c i = λ v.
    let a = one h p.0 (omega (arith, p.0)) in let d = less (one_less h.depth) (omega (arith, a.0, a.1)) in
    either_reckoned (truth (the_value (top h))) _ _ (omega (arith, a.0, a.1, d)) (omega (arith, a.0, a.1, d))
move_reckoned (to_exit at s b l ∷ k) h p c i = λ v.
    let a = one h p.0 (omega (arith, p.0)) in
    either_reckoned (truth (the_value (top h))) _ _ (omega (arith, a.0, a.1)) (omega (arith, a.0, a.1))
move_reckoned (to_close ∷ k) h p c i = let d = less h.depth (omega arith) in omega (arith, d)
move_reckoned (to_apply at f m ∷ k) h p c i = apply_reckoned f at m k h p.0 i
move_reckoned (to_call at f m ∷ k) h p c i = call_reckoned f at m k h p.0 i
move_reckoned (to_leave at ∷ k) h p c i = λ v.
    let l = shorter h.lents (omega (arith, c)) in let d = less h.depth (omega (arith, c)) in omega (arith, l, d)
move_reckoned (to_leave_with at r t ∷ k) h p c i = λ v.
    let l = shorter h.lents (omega (arith, c)) in let d = less h.depth (omega (arith, c)) in omega (arith, l, d)

-- the next action tells the depth
tells_either : (b : Bool) (c c' : Config) (X : ℕ → Type 0) → X c.held.depth → X c'.held.depth → X (cond b c c').held.depth
tells_either true c c' X p q = p
tells_either false c c' X p q = q

decision_tells : (b : Bool) (d : ℕ) (c c' : Config) → c.held.depth ≡ d → c'.held.depth ≡ suc d → cond b d (suc d) ≡ (cond b c c').held.depth
decision_tells true d c c' p q = sym p
decision_tells false d c c' p q = sym q

index_tells : (taken : Bool) (d n : ℕ) → suc (one_less d) ≡ d → (cond taken (one_less d) d ≡ suc (one_less d)) ⊎ (suc (cond taken (one_less d) d) ≡ suc (one_less d))
index_tells true d n e = inr refl
index_tells false d n e = inl (sym e)

abbrev TellsMove : Move → Type 0
TellsMove (rests n) = Tells n
TellsMove (moves k h) = Unit {0}

apply_tells : (p : Function) (at : At) (m : ℕ) (k : List Task) (h : Held) → Tells (next_apply p at m k h)
apply_tells (function u fs r t vs body) at m k h = λ v. refl

call_tells : (p : Procedure) (at : At) (m : ℕ) (k : List Task) (h : Held) → Tells (next_call p at m k h)
call_tells (procedure u fs vs body) at m k h = λ v. refl

eval_tells : (e : Expr) (k : List Task) (h : Held) → TellsMove (move_eval e k h)
eval_tells (constant at u v) k h = λ v. refl
eval_tells (value at t x) k h = tt
eval_tells (register at t a) k h = λ v. refl
eval_tells (unary at g e) k h = tt
eval_tells (binary at o t a b) k h = tt
eval_tells (junction at j a b) k h = tt
eval_tells (apply at p xs) k h = tt

exec_tells : (s : Stmt) (k : List Task) (h : Held) → TellsMove (move_exec s k h)
exec_tells skip k h = tt
exec_tells (seq a b) k h = tt
exec_tells (assign at t x e) k h = tt
exec_tells (offer at t a e) k h = tt
exec_tells (if xs) k h = tt
exec_tells (while at q e s) k h = λ v. refl
exec_tells (repeat at s q e) k h = λ v. refl
exec_tells (loop at b) k h = λ v. refl
exec_tells (call at p xs) k h = tt

locate_tells : (taken : Bool) (x : Designator) (k : List Task) (h : Held) → TellsMove (move_locate taken x k h)
locate_tells taken (whole m) k h = tt
locate_tells taken (element at x w low high s e) k h = tt
locate_tells taken (part at x w fs o) k h = tt

pass_tells : (xs : Actuals) (k : List Task) (h : Held) → TellsMove (move_pass xs k h)
pass_tells no_more k h = tt
pass_tells (a_value e xs) k h = tt
pass_tells (a_variable x xs) k h = tt

arms_tells : (xs : Arms) (k : List Task) (h : Held) → TellsMove (move_arms xs k h)
arms_tells (otherwise s) k h = tt
arms_tells (arm at e s xs) k h = tt

turn_tells : (b : Parts) (l : Stmt) (k : List Task) (h : Held) → TellsMove (move_turn b l k h)
turn_tells (ends s) l k h = tt
turn_tells (exits s at e s' b) l k h = tt

-- where a loop is open and a value waits, the depth is at least 2
loop_less : (k : List Task) (t : Task) (h : Held) → 1 ≤ length h.waiting → closer t ≡ 1 → Reckoned (then (t ∷ k) h)
    → suc (one_less (one_less h.depth)) ≡ one_less h.depth
loop_less k t h p c i = let a = less h.depth (omega arith) in less (one_less h.depth) (omega (arith, a, c))

-- a depth of at least as many as wait
deep_one : (k : List Task) (t : Task) (h : Held) → 1 ≤ length h.waiting → Reckoned (then (t ∷ k) h) → suc (one_less h.depth) ≡ h.depth
deep_one k t h p i = less h.depth (omega arith)

deep_two : (k : List Task) (t : Task) (h : Held) → 2 ≤ length h.waiting → Reckoned (then (t ∷ k) h)
    → suc (one_less (one_less h.depth)) ≡ one_less h.depth
deep_two k t h p i = let a = less h.depth (omega arith) in less (one_less h.depth) (omega (arith, a))

move_tells : (k : List Task) (h : Held) → Present (then k h) → Reckoned (then k h) → TellsMove (move k h)
move_tells [] h p i = tt
move_tells (to_eval e ∷ k) h p i = eval_tells e k h
move_tells (to_locate taken x ∷ k) h p i = locate_tells taken x k h
move_tells (to_pass xs ∷ k) h p i = pass_tells xs k h
move_tells (to_exec s ∷ k) h p i = exec_tells s k h
move_tells (to_arms xs ∷ k) h p i = arms_tells xs k h
move_tells (to_turn b l ∷ k) h p i = turn_tells b l k h
move_tells (to_take at t ∷ k) h p i = λ v. sym (deep_one k (to_take at t) h p.0 i)
move_tells (to_receive a t ∷ k) h p i = tt
move_tells (to_sign at g ∷ k) h p i = λ v. sym (deep_one k (to_sign at g) h p.0 i)
move_tells (to_operate at o ∷ k) h p i = λ v. sym (deep_two k (to_operate at o) h p.0 i)
move_tells (to_decide at j e ∷ k) h p i = λ v. decision_tells (needed j (the_value (top h))) (one_less h.depth) _ _ refl refl
move_tells (to_index taken at w low high s ∷ k) h p i = λ v. index_tells taken (one_less h.depth) 0 (deep_two k (to_index taken at w low high s) h p.0 i)
move_tells (to_select o ∷ k) h p i = tt
move_tells (to_store at ∷ k) h p i = λ v. refl
move_tells (to_write at a ∷ k) h p i = λ v. refl
move_tells (to_deliver a v ∷ k) h p i = tt
move_tells (to_test at s xs ∷ k) h p i = λ v.
    tells_either (truth (the_value (top h))) _ _ (λ n. (one_less h.depth ≡ n) ⊎ (one_less h.depth ≡ suc n)) (inl refl) (inl refl)
move_tells (to_while at q e s ∷ k) h p i = λ v.
    tells_either (truth (the_value (top h))) _ _ (λ n. (one_less h.depth ≡ n) ⊎ (one_less h.depth ≡ suc n)) (inl refl)
    (inr (sym (loop_less k (to_while at q e s) h p.0 refl i)))
move_tells (to_until at s q e ∷ k) h p i = λ v.
    tells_either (truth (the_value (top h))) _ _ (λ n. (one_less h.depth ≡ n) ⊎ (one_less h.depth ≡ suc n))
    (inr (sym (loop_less k (to_until at s q e) h p.0 refl i))) (inr (sym (loop_less k (to_until at s q e) h p.0 refl i)))
move_tells (to_exit at s b l ∷ k) h p i = λ v.
    tells_either (truth (the_value (top h))) _ _ (λ n. (one_less h.depth ≡ n) ⊎ (one_less h.depth ≡ suc n)) (inl refl) (inl refl)
move_tells (to_close ∷ k) h p i = tt
move_tells (to_apply at f m ∷ k) h p i = apply_tells f at m k h
move_tells (to_call at f m ∷ k) h p i = call_tells f at m k h
move_tells (to_leave at ∷ k) h p i = λ v. refl
move_tells (to_leave_with at r t ∷ k) h p i = λ v. refl

-- all three together
both_after : (X Y Z : Config → Type 0) (m : Move) → AfterMove X m → AfterMove Y m → AfterMove Z m → AfterMove (λ c. X c × Y c × Z c) m
both_after X Y Z (rests none) p q r = tt
both_after X Y Z (rests (acts at d a c)) p q r = λ v. (p v, q v, r v)
both_after X Y Z (rests (awaits a t c)) p q r = λ v. (p v, q v, r v)
both_after X Y Z (rests (offers a v c)) p q r = (p, q, r)
both_after X Y Z (moves k h) p q r = (p, q, r)

move_steady : KeptByMoves Steady
move_steady k h i =
    both_after Present Covered Reckoned (move k h) (move_present k h i.0) (move_covered k h i.1) (move_reckoned k h i.0 i.1 i.2)

deep_now : (n : Now) → Holds Steady n → Holds Deep n
deep_now (there c) i =
    (i.2, next_has Steady move_steady Tells (λ k h j. tells_rest k h j) (suc (weight c.tasks)) c.tasks c.held (omega arith) i)
  where
    tells_rest : (k : List Task) (h : Held) → Steady (then k h) → (x : Next) → move k h ≡ rests x → Tells x
    tells_rest k h j x e = subst TellsMove e (move_tells k h j.0 j.2)
deep_now (fallen t p) i = tt

pub depth_reckoned_lem : DepthReckoned
depth_reckoned_lem P es =
    deep_now (arrives (start P) es) (calls_keep Steady move_steady es (start P) ((omega arith, tt), omega arith, omega arith))
