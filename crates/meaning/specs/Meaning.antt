-- What a program does: the actions of its text, one after the other. One clause for each construct.
use Prim.{Unit, tt}
use Rattle.std.specs.Prelude.{ℕ, zero, suc, ◌+◌, Bool, true, false, cond, not, List, [], ◌∷◌, length, ℤ, Ok, Err, Result, slice_index, unsigned_abs}
use Rattle.fault.specs.declared.Trap.{Trap}
use Rattle.program.specs.Types.{Simple}
use Rattle.program.specs.Trees.{At, Junction, Name, Expr, Designator, Actuals, Stmt, Arms, Parts, Procedure, Function, Program}
use Rattle.program.specs.Types.{fits}
use Rattle.program.specs.Trees.Junction.{and, or}
use Rattle.program.specs.Trees.Name.{own, formal}
use Rattle.program.specs.Trees.Expr.{constant, value, register, unary, binary, junction, apply}
use Rattle.program.specs.Trees.Designator.{whole, element, part}
use Rattle.program.specs.Trees.Actuals.{no_more, a_value, a_variable}
use Rattle.program.specs.Trees.Stmt.{skip, seq, assign, offer, if, while, repeat, loop, call}
use Rattle.program.specs.Trees.Arms.{otherwise, arm}
use Rattle.program.specs.Trees.Parts.{ends, exits}
use Rattle.program.specs.Trees.Procedure.{procedure}
use Rattle.program.specs.Trees.Function.{function}
use Rattle.program.specs.WellFormed.{last_first}
use Rattle.meaning.specs.Actions.{Way, Item, Action, Cells, Event, Run, Behaviour, stop, also, outcome, truth}
use Rattle.meaning.specs.Actions.Way.{direct, onward}
use Rattle.meaning.specs.Actions.Item.{val, ref}
use Rattle.meaning.specs.Actions.Action.{a_constant, a_take, a_read, an_index, a_sign, an_operator, a_decision, a_test, a_turn, a_store, a_write, an_entry, a_leave, a_leave_with}
use Rattle.meaning.specs.Actions.Line.{did, was_given}
use Rattle.meaning.specs.Actions.Event.{step, give, took}
use Rattle.meaning.specs.Actions.State.{ready, finished, trapped, awaiting, offering}

-- something that does actions and gives an A: it is told what happens with the A
abbrev pub M : Type 0 → Type 0
M A = (A → Behaviour) → Behaviour

abbrev pub Done : Type 0
Done = Unit {0}

abbrev pub return : {A : Type 0} → A → M A
return a k = k a

infixl 1 ◌>>=◌ ◌>>◌
abbrev pub ◌>>=◌ : {A B : Type 0} → M A → (A → M B) → M B
◌>>=◌ m f k = m (λ a. f a k)

abbrev pub ◌>>◌ : {A B : Type 0} → M A → M B → M B
◌>>◌ m n k = m (λ _. n k)

abbrev pub goes_on : At → ℕ → Action → Cells → (ℤ → Run) → Result ℤ Trap → Run
goes_on at d a σ k (Ok v) = also (did at d a σ (Ok v)) (k v)
goes_on at d a σ k (Err t) = also (did at d a σ (Err t)) (stop (trapped t at.place))

-- one action, which leaves the depth d: it waits for a step, and refuses the other calls
unfoldable pub act : At → ℕ → Action → M ℤ
act at d a k [] = stop ready
act at d a k (step σ ∷ es) = goes_on at d a σ (λ v. k v es) (outcome d a σ)
act at d a k (give v ∷ es) = act at d a k es
act at d a k (took ∷ es) = act at d a k es

abbrev pub if_fits : Bool → Run → Run → Run
if_fits true r s = r
if_fits false r s = s

-- a register's value: it waits for one of the type
unfoldable pub await : ℕ → Simple → M ℤ
await a t k [] = stop (awaiting a t)
await a t k (step σ ∷ es) = await a t k es
await a t k (give v ∷ es) = if_fits (fits t v) (also (was_given a t v) (k v es)) (await a t k es)
await a t k (took ∷ es) = await a t k es

-- a value offered to a register: it waits until that is taken
unfoldable pub deliver : ℕ → ℤ → M Done
deliver a v k [] = stop (offering a v)
deliver a v k (step σ ∷ es) = deliver a v k es
deliver a v k (give w ∷ es) = deliver a v k es
deliver a v k (took ∷ es) = k tt es

abbrev pub unroll : (Behaviour → Behaviour) → ℕ → Behaviour
unroll F zero es = stop ready
unroll F (suc n) es = F (unroll F n) es

-- what does an action and may then do itself again: it does so at most as often as there are calls
unfoldable pub again_and_again : (M Done → M Done) → M Done
again_and_again F k es = unroll (λ again. F (λ _. again) k) (suc (length es)) es

abbrev pub choose : {A : Type 0} → Bool → M A → M A → M A
choose true m n = m
choose false m n = n

abbrev pub cell_of_name : List ℕ → Name → ℕ
cell_of_name ls (own x) = x.cell
cell_of_name ls (formal n) = slice_index ls n

abbrev pub way : Designator → Way
way (whole (own x)) = direct
way (whole (formal n)) = onward
way (element at x w low high s e) = way x
way (part at x w fs o) = way x

-- the cells that var formals stand for
abbrev pub lent : List Item → List ℕ
lent [] = []
lent (val v ∷ is) = lent is
lent (ref c w ∷ is) = c ∷ lent is

-- a node of the same place, in another module
abbrev pub moved : At → ℕ → At
moved at m = record { place = at.place; inside = m }

-- the right operand of `and` is done if the left is true, that of `or` if it is false
abbrev pub needed : Junction → ℤ → Bool
needed and v = truth v
needed or v = not (truth v)

-- `ls` are the cells that the var formals stand for, and `d` is the depth before: what waits, and what is open
abbrev mutual
  -- afterwards the value waits
  pub eval : List ℕ → ℕ → Expr → M ℤ
  eval ls d (constant at u v) = act at (suc d) (a_constant v)
  eval ls d (value at t x) = do
    c ← locate true ls d x
    act at (suc d) (a_take c t)
  eval ls d (register at t a) = do
    act at (suc d) (a_read a t)
    await a t
  eval ls d (unary at g e) = do
    v ← eval ls d e
    act at (suc d) (a_sign g v)
  eval ls d (binary at o t a b) = do
    x ← eval ls d a
    y ← eval ls (suc d) b
    act at (suc d) (an_operator o x y)
  eval ls d (junction at j a b) = do
    x ← eval ls d a
    act at (cond (needed j x) d (suc d)) (a_decision j x)
    choose (needed j x) (eval ls d b) (return x)
  eval ls d (apply at p xs) = do
    is ← actuals ls d xs []
    applied p d at is

  -- Afterwards the variable waits. If it is only to be taken, it does so no more after its last index.
  pub locate : (taken : Bool) → List ℕ → ℕ → Designator → M ℕ
  locate taken ls d (whole n) = return (cell_of_name ls n)
  locate taken ls d (element at x w low high s e) = do
    base ← locate false ls d x
    v ← eval ls (suc d) e
    c ← act at (cond taken d (suc d)) (an_index base w low high s v)
    return (unsigned_abs c)
  locate taken ls d (part at x w fs o) = do
    base ← locate taken ls d x
    return (base + o)

  -- the actuals, the last first, before those that wait already
  pub actuals : List ℕ → ℕ → Actuals → List Item → M (List Item)
  actuals ls d no_more is = return is
  actuals ls d (a_value e xs) is = do
    v ← eval ls d e
    actuals ls (suc d) xs (val v ∷ is)
  actuals ls d (a_variable x xs) is = do
    c ← locate false ls d x
    actuals ls (suc d) xs (ref c (way x) ∷ is)

  pub exec : List ℕ → ℕ → Stmt → M Done
  exec ls d skip = return tt
  exec ls d (seq a b) = do
    exec ls d a
    exec ls d b
  exec ls d (assign at t x e) = do
    c ← locate false ls d x
    v ← eval ls (suc d) e
    act at d (a_store (way x) c v)
    return tt
  exec ls d (offer at t a e) = do
    v ← eval ls (suc d) e
    act at d (a_write a v)
    deliver a v
  exec ls d (if xs) = arms ls (suc d) xs
  exec ls d (while at q e s) = again_and_again λ again. do
    act at (suc d) a_turn
    v ← eval ls (suc d) e
    act q (suc d) (a_test v)
    choose (truth v) (exec ls (suc d) s >> again) (return tt)
  exec ls d (repeat at s q e) = again_and_again λ again. do
    act at (suc d) a_turn
    exec ls (suc d) s
    v ← eval ls (suc d) e
    act q (suc d) (a_test v)
    choose (truth v) (return tt) again
  exec ls d (loop at b) = again_and_again λ again. do
    act at (suc d) a_turn
    turn ls (suc d) b again
  exec ls d (call at p xs) = do
    is ← actuals ls d xs []
    called p d at is

  pub arms : List ℕ → ℕ → Arms → M Done
  arms ls d (otherwise s) = exec ls d s
  arms ls d (arm at e s xs) = do
    v ← eval ls d e
    act at d (a_test v)
    choose (truth v) (exec ls d s) (arms ls d xs)

  pub turn : List ℕ → ℕ → Parts → M Done → M Done
  turn ls d (ends s) again = do
    exec ls d s
    again
  turn ls d (exits s at e s' b) again = do
    exec ls d s
    v ← eval ls d e
    act at d (a_test v)
    choose (truth v) (exec ls d s') (turn ls d b again)

  -- A call has its entry and its leave in the text of the called procedure, at the place of the call. After the entry the actuals wait
  -- no more and the call is open; the leave of a function gives its result, which then waits.
  pub applied : Function → ℕ → At → List Item → M ℤ
  applied (function m fs r t vs body) d at is = do
    act (moved at m) (suc d) (an_entry at.inside (last_first fs) (r ∷ vs) is)
    exec (lent is) (suc d) body
    act (moved at m) (suc d) (a_leave_with r.cell t)

  pub called : Procedure → ℕ → At → List Item → M Done
  called (procedure m fs vs body) d at is = do
    act (moved at m) (suc d) (an_entry at.inside (last_first fs) vs is)
    exec (lent is) (suc d) body
    act (moved at m) d a_leave
    return tt

-- the bodies run one after the other
abbrev pub whole_body : List Stmt → Stmt
whole_body [] = skip
whole_body (s ∷ ss) = seq s (whole_body ss)

-- what a program does on these calls, from its start on
abbrev pub meaning : Program → List Event → Run
meaning P = exec [] 0 (whole_body P.bodies) (λ _ _. stop finished)
