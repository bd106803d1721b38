-- What happens with the value of a part, the part looks at only with the calls that it leaves over. So what does itself again is its own
-- unrolling, whatever bounds the number of its turns.
use Prim.{tt, absurd}
use Rattle.std.proofs.Common.{◌≡◌, ℕ, zero, suc, ◌<◌, ◌≤◌, Bool, true, false, List, [], ◌∷◌, length, ℤ, nat_abs, Ok, Err, Result, sym, refl, ap, arith}
use Rattle.fault.specs.declared.Trap.{Trap}
use Rattle.program.specs.Types.{Simple}
use Rattle.program.specs.Trees.{At, Expr, Designator, Actuals, Stmt, Arms, Parts, Procedure, Function}
use Rattle.program.specs.Types.{fits}
use Rattle.program.specs.Trees.Expr.{constant, value, register, unary, binary, junction, apply}
use Rattle.program.specs.Trees.Designator.{whole, element, part}
use Rattle.program.specs.Trees.Actuals.{no_more, a_value, a_variable}
use Rattle.program.specs.Trees.Stmt.{skip, seq, assign, offer, if, while, repeat, loop, call}
use Rattle.program.specs.Trees.Arms.{otherwise, arm}
use Rattle.program.specs.Trees.Parts.{ends, exits}
use Rattle.program.specs.Trees.Procedure.{procedure}
use Rattle.program.specs.Trees.Function.{function}
use Rattle.meaning.specs.Actions.{Item, Action, Cells, Event, Run, Behaviour, also, outcome, truth}
use Rattle.meaning.specs.Actions.Action.{a_turn, a_test}
use Rattle.meaning.specs.Actions.Event.{step, give, took}
use Rattle.meaning.specs.Meaning.{M, Done, return, act, await, deliver, goes_on, if_fits, unroll, again_and_again, choose, needed, eval, locate, actuals, exec, arms, turn, applied, called, ◌>>◌}

abbrev pub Agree : ℕ → Behaviour → Behaviour → Type 0
Agree n X Y = (es : List Event) → length es < n → X es ≡ Y es

abbrev pub Local : {A : Type 0} → M A → Type 0
Local {A} m = (n : ℕ) (k k' : A → Behaviour) → ((a : A) → Agree n (k a) (k' a)) → Agree n (m k) (m k')

goes_on_agree : (at : At) (d : ℕ) (a : Action) (σ : Cells) (k k' : ℤ → Run) → ((v : ℤ) → k v ≡ k' v)
    → (r : Result ℤ Trap) → goes_on at d a σ k r ≡ goes_on at d a σ k' r
goes_on_agree at d a σ k k' h (Ok v) = ap (also _) (h v)
goes_on_agree at d a σ k k' h (Err p) = refl

-- an action uses up a call
pub act_agree : (at : At) (d : ℕ) (a : Action) (n : ℕ) (k k' : ℤ → Behaviour) → ((v : ℤ) → Agree n (k v) (k' v))
    → Agree (suc n) (act at d a k) (act at d a k')
unfolding act
act_agree at d a n k k' h [] l = refl
act_agree at d a n k k' h (step σ ∷ es) l = goes_on_agree at d a σ _ _ (λ v. h v es (omega arith)) (outcome d a σ)
act_agree at d a n k k' h (give v ∷ es) l = act_agree at d a n k k' h es (omega arith)
act_agree at d a n k k' h (took ∷ es) l = act_agree at d a n k k' h es (omega arith)

pub act_local : (at : At) (d : ℕ) (a : Action) → Local (act at d a)
act_local at d a n k k' h es l = act_agree at d a n k k' h es (omega arith)

if_fits_agree : (b : Bool) {r r' s s' : Run} → r ≡ r' → s ≡ s' → if_fits b r s ≡ if_fits b r' s'
if_fits_agree true p q = p
if_fits_agree false p q = q

pub await_local : (a : ℕ) (t : Simple) → Local (await a t)
unfolding await
await_local a t n k k' h [] l = refl
await_local a t n k k' h (step σ ∷ es) l = await_local a t n k k' h es (omega arith)
await_local a t n k k' h (give v ∷ es) l =
    if_fits_agree (fits t v) (ap (also _) (h v es (omega arith))) (await_local a t n k k' h es (omega arith))
await_local a t n k k' h (took ∷ es) l = await_local a t n k k' h es (omega arith)

pub deliver_local : (a : ℕ) (v : ℤ) → Local (deliver a v)
unfolding deliver
deliver_local a v n k k' h [] l = refl
deliver_local a v n k k' h (step σ ∷ es) l = deliver_local a v n k k' h es (omega arith)
deliver_local a v n k k' h (give w ∷ es) l = deliver_local a v n k k' h es (omega arith)
deliver_local a v n k k' h (took ∷ es) l = h tt es (omega arith)

pub choose_local : {A : Type 0} (b : Bool) {m m' : M A} → Local m → Local m' → Local (choose b m m')
choose_local true p q = p
choose_local false p q = q

-- what does itself again
unroll_agree : (n : ℕ) (F G : Behaviour → Behaviour)
    → ((m : ℕ) → m < n → (X Y : Behaviour) → Agree m X Y → Agree (suc m) (F X) (G Y))
    → (m : ℕ) → m ≤ n → Agree m (unroll F m) (unroll G m)
unroll_agree n F G h zero l es below = absurd (omega arith)
unroll_agree n F G h (suc m) l es below =
    h m l (unroll F m) (unroll G m) (unroll_agree n F G h m (omega arith)) es below

unroll_stable : (F : Behaviour → Behaviour)
    → ((m : ℕ) (X Y : Behaviour) → Agree m X Y → Agree (suc m) (F X) (F Y))
    → (m n : ℕ) → m ≤ n → Agree m (unroll F m) (unroll F n)
unroll_stable F h zero n l es below = absurd (omega arith)
unroll_stable F h (suc m) zero l es below = absurd (omega arith)
unroll_stable F h (suc m) (suc n) l es below =
    h m (unroll F m) (unroll F n) (unroll_stable F h m n (omega arith)) es below

-- a turn whose first action makes what follows one call shorter
abbrev pub Turning : (M Done → M Done) → Type 0
Turning F = (n : ℕ) (X Y : Behaviour) (k k' : Done → Behaviour) → Agree n X Y → ((u : Done) → Agree n (k u) (k' u))
    → Agree (suc n) (F (λ _. X) k) (F (λ _. Y) k')

pub unrolls : (F : M Done → M Done) → Turning F → (k : Done → Behaviour) (es : List Event)
    → again_and_again F k es ≡ F (λ _. again_and_again F k) k es
unfolding again_and_again
unrolls F h k es =
    h (length es) (unroll (λ again. F (λ _. again) k) (length es)) (again_and_again F k) k k
    (λ js l. sym (unroll_stable (λ again. F (λ _. again) k) (λ m X Y hX. h m X Y k k hX (λ u js b. refl)) (suc (length js)) (length es) l js (omega arith)))
    (λ u js b. refl) es (omega arith)

pub again_local : (F : M Done → M Done) → Turning F → Local (again_and_again F)
unfolding again_and_again
again_local F h n k k' hk es l =
    unroll_agree n (λ again. F (λ _. again) k) (λ again. F (λ _. again) k')
    (λ m lm X Y hX. h m X Y k k' hX (λ u js b. hk u js (omega arith))) (suc (length es)) l es (omega arith)

-- the turns of the three loops
abbrev pub while_turn : List ℕ → ℕ → At → At → Expr → Stmt → M Done → M Done
while_turn ls d at q e s again k =
    act at (suc d) a_turn (λ _. eval ls (suc d) e (λ v. act q (suc d) (a_test v) (λ _. choose (truth v) (exec ls (suc d) s >> again) (return tt) k)))

abbrev pub repeat_turn : List ℕ → ℕ → At → Stmt → At → Expr → M Done → M Done
repeat_turn ls d at s q e again k =
    act at (suc d) a_turn (λ _. exec ls (suc d) s (λ _. eval ls (suc d) e (λ v. act q (suc d) (a_test v) (λ _. choose (truth v) (return tt) again k))))

abbrev pub loop_turn : List ℕ → ℕ → At → Parts → M Done → M Done
loop_turn ls d at b again k = act at (suc d) a_turn (λ _. turn ls (suc d) b again k)

while_turning : (ls : List ℕ) (d : ℕ) (at q : At) (e : Expr) (s : Stmt) → Local (eval ls (suc d) e) → Local (exec ls (suc d) s)
    → Turning (while_turn ls d at q e s)
while_turning ls d at q e s le ls' n X Y k k' hX hk =
    act_agree at (suc d) a_turn n _ _ λ _. le n _ _ λ v. act_local q (suc d) (a_test v) n _ _ λ _. go (truth v)
  where
    go : (b : Bool) → Agree n (choose b (exec ls (suc d) s >> (λ _. X)) (return tt) k) (choose b (exec ls (suc d) s >> (λ _. Y)) (return tt) k')
    go true = ls' n _ _ λ _. hX
    go false = hk tt

repeat_turning : (ls : List ℕ) (d : ℕ) (at : At) (s : Stmt) (q : At) (e : Expr) → Local (exec ls (suc d) s) → Local (eval ls (suc d) e)
    → Turning (repeat_turn ls d at s q e)
repeat_turning ls d at s q e ls' le n X Y k k' hX hk =
    act_agree at (suc d) a_turn n _ _ λ _. ls' n _ _ λ _. le n _ _ λ v. act_local q (suc d) (a_test v) n _ _ λ _. go (truth v)
  where
    go : (b : Bool) → Agree n (choose b (return tt) (λ _. X) k) (choose b (return tt) (λ _. Y) k')
    go true = hk tt
    go false = hX

-- a turn of a loop, whose `again` is another behaviour
abbrev LocalTurn : (M Done → M Done) → Type 0
LocalTurn F = (n : ℕ) (X Y : Behaviour) (k k' : Done → Behaviour) → Agree n X Y → ((u : Done) → Agree n (k u) (k' u))
    → Agree n (F (λ _. X) k) (F (λ _. Y) k')

loop_turning : (ls : List ℕ) (d : ℕ) (at : At) (b : Parts) → LocalTurn (turn ls (suc d) b) → Turning (loop_turn ls d at b)
loop_turning ls d at b h n X Y k k' hX hk = act_agree at (suc d) a_turn n _ _ λ _. h n X Y k k' hX hk

exits_agree : (n : ℕ) (b : Bool) (m p p' : M Done) (k k' : Done → Behaviour)
    → Agree n (m k) (m k') → Agree n (p k) (p' k') → Agree n (choose b m p k) (choose b m p' k')
exits_agree n true m p p' k k' h g = h
exits_agree n false m p p' k k' h g = g

-- the parts of a tree
mutual
  pub eval_local : (ls : List ℕ) (d : ℕ) (e : Expr) → Local (eval ls d e)
  eval_local ls d (constant at u v) n k k' h = act_local at _ _ n k k' h
  eval_local ls d (value at t x) n k k' h = locate_local true ls d x n _ _ λ c. act_local at _ _ n k k' h
  eval_local ls d (register at t a) n k k' h = act_local at _ _ n _ _ λ _. await_local a t n k k' h
  eval_local ls d (unary at g e) n k k' h = eval_local ls d e n _ _ λ v. act_local at _ _ n k k' h
  eval_local ls d (binary at o t a b) n k k' h =
      eval_local ls d a n _ _ λ x. eval_local ls (suc d) b n _ _ λ y. act_local at _ _ n k k' h
  eval_local ls d (junction at j a b) n k k' h =
      eval_local ls d a n _ _ λ x. act_local at _ _ n _ _ λ _. choose_local (needed j x) (eval_local ls d b) (λ n k k' h. h x) n k k' h
  eval_local ls d (apply at p xs) n k k' h = actuals_local ls d xs [] n _ _ λ is. applied_local p d at is n k k' h

  pub locate_local : (taken : Bool) (ls : List ℕ) (d : ℕ) (x : Designator) → Local (locate taken ls d x)
  locate_local taken ls d (whole x) n k k' h = h _
  locate_local taken ls d (element at x w low high s e) n k k' h =
      locate_local false ls d x n _ _ λ base. eval_local ls (suc d) e n _ _ λ v. act_local at _ _ n _ _ λ c. h (nat_abs c)
  locate_local taken ls d (part at x w fs o) n k k' h = locate_local taken ls d x n _ _ λ base. h _

  pub actuals_local : (ls : List ℕ) (d : ℕ) (xs : Actuals) (is : List Item) → Local (actuals ls d xs is)
  actuals_local ls d no_more is n k k' h = h is
  actuals_local ls d (a_value e xs) is n k k' h = eval_local ls d e n _ _ λ v. actuals_local ls (suc d) xs _ n k k' h
  actuals_local ls d (a_variable x xs) is n k k' h = locate_local false ls d x n _ _ λ c. actuals_local ls (suc d) xs _ n k k' h

  pub exec_local : (ls : List ℕ) (d : ℕ) (s : Stmt) → Local (exec ls d s)
  exec_local ls d skip n k k' h = h tt
  exec_local ls d (seq a b) n k k' h = exec_local ls d a n _ _ λ _. exec_local ls d b n k k' h
  exec_local ls d (assign at t x e) n k k' h =
      locate_local false ls d x n _ _ λ c. eval_local ls (suc d) e n _ _ λ v. act_local at _ _ n _ _ λ _. h tt
  exec_local ls d (offer at t a e) n k k' h = eval_local ls (suc d) e n _ _ λ v. act_local at _ _ n _ _ λ _. deliver_local a v n k k' h
  exec_local ls d (if xs) n k k' h = arms_local ls (suc d) xs n k k' h
  exec_local ls d (while at q e s) n k k' h =
      again_local (while_turn ls d at q e s) (while_turning ls d at q e s (eval_local ls (suc d) e) (exec_local ls (suc d) s)) n k k' h
  exec_local ls d (repeat at s q e) n k k' h =
      again_local (repeat_turn ls d at s q e) (repeat_turning ls d at s q e (exec_local ls (suc d) s) (eval_local ls (suc d) e)) n k k' h
  exec_local ls d (loop at b) n k k' h = again_local (loop_turn ls d at b) (loop_turning ls d at b (turn_local ls (suc d) b)) n k k' h
  exec_local ls d (call at p xs) n k k' h = actuals_local ls d xs [] n _ _ λ is. called_local p d at is n k k' h

  pub arms_local : (ls : List ℕ) (d : ℕ) (xs : Arms) → Local (arms ls d xs)
  arms_local ls d (otherwise s) n k k' h = exec_local ls d s n k k' h
  arms_local ls d (arm at e s xs) n k k' h =
      eval_local ls d e n _ _ λ v. act_local at _ _ n _ _ λ _. choose_local (truth v) (exec_local ls d s) (arms_local ls d xs) n k k' h

  pub turn_local : (ls : List ℕ) (d : ℕ) (b : Parts) → LocalTurn (turn ls d b)
  turn_local ls d (ends s) n X Y k k' hX hk = exec_local ls d s n _ _ λ _. hX
  turn_local ls d (exits s at e s' b) n X Y k k' hX hk =
      exec_local ls d s n _ _ λ _. eval_local ls d e n _ _ λ v. act_local at _ _ n _ _ λ _.
      exits_agree n (truth v) _ _ _ _ _ (exec_local ls d s' n k k' hk) (turn_local ls d b n X Y k k' hX hk)

  pub applied_local : (p : Function) (d : ℕ) (at : At) (is : List Item) → Local (applied p d at is)
  applied_local (function m fs r t vs body) d at is n k k' h =
      act_local _ _ _ n _ _ λ _. exec_local _ (suc d) body n _ _ λ _. act_local _ _ _ n k k' h

  pub called_local : (p : Procedure) (d : ℕ) (at : At) (is : List Item) → Local (called p d at is)
  called_local (procedure m fs vs body) d at is n k k' h =
      act_local _ _ _ n _ _ λ _. exec_local _ (suc d) body n _ _ λ _. act_local _ _ _ n _ _ λ _. h tt

-- a loop is its turn, and then itself
pub while_turns : (ls : List ℕ) (d : ℕ) (at q : At) (e : Expr) (s : Stmt) (k : Done → Behaviour) (es : List Event)
    → exec ls d (while at q e s) k es ≡ while_turn ls d at q e s (λ _. exec ls d (while at q e s) k) k es
while_turns ls d at q e s = unrolls (while_turn ls d at q e s) (while_turning ls d at q e s (eval_local ls (suc d) e) (exec_local ls (suc d) s))

pub repeat_turns : (ls : List ℕ) (d : ℕ) (at : At) (s : Stmt) (q : At) (e : Expr) (k : Done → Behaviour) (es : List Event)
    → exec ls d (repeat at s q e) k es ≡ repeat_turn ls d at s q e (λ _. exec ls d (repeat at s q e) k) k es
repeat_turns ls d at s q e = unrolls (repeat_turn ls d at s q e) (repeat_turning ls d at s q e (exec_local ls (suc d) s) (eval_local ls (suc d) e))

pub loop_turns : (ls : List ℕ) (d : ℕ) (at : At) (b : Parts) (k : Done → Behaviour) (es : List Event)
    → exec ls d (loop at b) k es ≡ loop_turn ls d at b (λ _. exec ls d (loop at b) k) k es
loop_turns ls d at b = unrolls (loop_turn ls d at b) (loop_turning ls d at b (turn_local ls (suc d) b))
