-- Each action of a well-formed program is lawful: it takes a cell as of its type, stores what fits, names what it may name and opens what
-- it may open. All laws of runs follow from this one induction.
use Prim.{Unit, tt, ⊥, absurd}
use Rattle.std.proofs.Common.{◌≡◌, ℕ, zero, suc, ◌+◌, ◌≤◌, Bool, true, false, cond, T, leb, List, [], ◌∷◌, length, get_or, ℤ, pos, nat_abs, Ok, Err, Result, sym, refl, ap, subst, inl, inr, arith, leb→le}
use mathlib.Core.List.{reverse_aux}
use mathlib.Core.Option.{Option, none, some}
use lib.ListN.{get_elem?}
use Rattle.fault.specs.declared.Trap.{Trap}
use Rattle.program.specs.Types.{Simple, Shape, Fields}
use Rattle.program.specs.Trees.{At, Variable, Name, Formal, Expr, Designator, Actuals, Stmt, Arms, Parts, Procedure, Function, Program}
use Rattle.program.specs.Types.{Field, size, element_cell, fits}
use Rattle.program.specs.Types.Simple.{integer, boolean}
use Rattle.program.specs.Types.Shape.{simple, array, record_of}
use Rattle.program.specs.Types.Fields.{no_field, field_and}
use Rattle.program.specs.Trees.Name.{own, formal}
use Rattle.program.specs.Trees.Formal.{by_const, by_var}
use Rattle.program.specs.Trees.Expr.{constant, value, register, unary, binary, junction, apply}
use Rattle.program.specs.Trees.Designator.{whole, element, part}
use Rattle.program.specs.Trees.Actuals.{no_more, a_value, a_variable}
use Rattle.program.specs.Trees.Stmt.{skip, seq, assign, offer, if, while, repeat, loop, call}
use Rattle.program.specs.Trees.Arms.{otherwise, arm}
use Rattle.program.specs.Trees.Parts.{ends, exits}
use Rattle.program.specs.Trees.Procedure.{procedure}
use Rattle.program.specs.Trees.Function.{function}
use Rattle.program.specs.Cells.{cell, CellAt, Changeable, Each, EachOf, Part, PartOf, Dealt, part_of}
use Rattle.program.specs.WellFormed.{ok_sign, ok_operator, last_first, var_shapes, OwnedSimple, AllOwned, FormalsOwned, Allowed, ok_name, procedure_formals, function_formals, ok_expr, ok_designator, ok_actuals, ok_stmt, ok_arms, ok_parts, ok_procedure, ok_function}
use Rattle.program.proofs.Dealing.{none_some, some_inj, dealt_each}
use Rattle.meaning.specs.Actions.{Way, Item, Action, Cells, Line, Event, Run, Behaviour, gives, finds, outcome, first_trap, truth, deepest}
use Rattle.meaning.specs.Actions.Way.{direct, onward}
use Rattle.meaning.specs.Actions.Item.{val, ref}
use Rattle.meaning.specs.Actions.Action.{a_constant, a_take, a_read, an_index, a_sign, an_operator, a_decision, a_test, a_turn, a_store, a_write, an_entry, a_leave, a_leave_with}
use Rattle.meaning.specs.Actions.Line.{did, was_given}
use Rattle.meaning.specs.Actions.Event.{step, give, took}
use Rattle.meaning.specs.Meaning.{M, Done, act, await, deliver, goes_on, if_fits, unroll, again_and_again, choose, needed, cell_of_name, way, lent, eval, locate, actuals, exec, arms, turn, applied, called}
use Rattle.meaning.specs.Hiding.{Open, opened, LentBy, Lent}
use Rattle.meaning.proofs.Operators.{Fits, as_type, ok_inj, ok_err, operator_fits, sign_fits, index_ok}

-- what comes of an action that does not trap: it gives a value, finds its cell as it should be, and is not too deep
pub outcome_ok : (d : ℕ) (a : Action) (σ : Cells) (v : ℤ) → Ok v ≡ outcome d a σ → (gives a σ ≡ Ok v) × T (finds a σ) × (d ≤ deepest)
unfolding outcome
outcome_ok d a σ v e = go (gives a σ) (leb d deepest) (finds a σ) (λ t. t) e
  where
    go : (r : Result ℤ Trap) (b f : Bool) → (T b → T (leb d deepest)) → Ok v ≡ first_trap r b f → (r ≡ Ok v) × T f × (d ≤ deepest)
    go (Err t) b f k e = absurd (ok_err e)
    go (Ok w) false f k e = absurd (ok_err e)
    go (Ok w) true false k e = absurd (ok_err e)
    go (Ok w) true true k e = (sym e, tt, leb→le d deepest (k tt))

-- parts
mutual
  each_map : (X Y : ℕ → Simple → Type 0) (b : ℕ) (s : Shape) → ((c : ℕ) (t : Simple) → Part c b s → X c t → Y c t) → Each X b s → Each Y b s
  each_map X Y b (simple t) h p = h b t refl p
  each_map X Y b (array u low high s) h p = λ v w. each_map X Y _ s (λ c t q. h c t (v, w, q)) (p v w)
  each_map X Y b (record_of u fs) h p = each_of_map X Y b fs h p

  each_of_map : (X Y : ℕ → Simple → Type 0) (b : ℕ) (fs : Fields) → ((c : ℕ) (t : Simple) → PartOf c b fs → X c t → Y c t) → EachOf X b fs → EachOf Y b fs
  each_of_map X Y b no_field h p = tt
  each_of_map X Y b (field_and s fs) h p =
      (each_map X Y b s (λ c t q. h c t (inl q)) p.0, each_of_map X Y _ fs (λ c t q. h c t (inr q)) p.1)

field_each : (X : ℕ → Simple → Type 0) (b : ℕ) (fs : Fields) (o : ℕ) (s : Shape) → Field fs o s → EachOf X b fs → Each X (b + o) s
field_each X b no_field o s h p = absurd h
field_each X b (field_and u fs) o s (inl e) p =
    let z : b + o ≡ b = omega (arith, e.0) in subst (λ c. Each X c s) (sym z) (subst (Each X b) e.1 p.0)
field_each X b (field_and u fs) o s (inr e) p =
    let z : b + o ≡ (b + size u) + e.0 = omega (arith, e.1) in
    subst (λ c. Each X c s) (sym z) (field_each X (b + size u) fs e.0 s e.2 p.1)

-- a decision, and an index, leave at most the depth that there was
decision_low : (d : ℕ) (b : Bool) → suc d ≤ deepest → cond b d (suc d) ≤ deepest
decision_low d true h = omega arith
decision_low d false h = h

formals_turned : (P : Program) (m : ℕ) (fs gs : List Formal) → FormalsOwned P m fs → FormalsOwned P m gs → FormalsOwned P m (reverse_aux fs gs)
formals_turned P m [] gs h g = g
formals_turned P m (by_const x t ∷ fs) gs h g = formals_turned P m fs (by_const x t ∷ gs) h.1 (h.0, g, h.2)
formals_turned P m (by_var s ∷ fs) gs h g = formals_turned P m fs (by_var s ∷ gs) h g

module _ (P : Program) where
  -- the cell c is one of the program, of this type
  abbrev pub Is : ℕ → Simple → Type 0
  Is c t = (m : ℕ) × (b : Bool) × CellAt P c (cell m b t)

  -- who names the variable of a cell so, under these open calls, does so rightly; one who only reads may do so anywhere
  abbrev pub Named : List Open → Option ℕ → Way → ℕ → Type 0
  Named o none direct c = Unit {0}
  Named o (some m) direct c = Changeable P m c
  Named o who onward c = Lent P c o

  -- a variable of this type stands there, and is rightly named so
  abbrev pub Place : List Open → Option ℕ → Way → Shape → ℕ → Type 0
  Place o who w s c = Each (λ c t. Is c t × Named o who w c) c s

  -- actuals that fit the formals, in a call that stands in m
  abbrev pub Match : List Open → ℕ → List Item → List Formal → Type 0
  Match o m [] [] = Unit {0}
  Match o m [] (f ∷ fs) = ⊥
  Match o m (i ∷ is) [] = ⊥
  Match o m (val v ∷ is) (by_const x t ∷ fs) = Fits t v × Match o m is fs
  Match o m (val v ∷ is) (by_var s ∷ fs) = ⊥
  Match o m (ref b w ∷ is) (by_const x t ∷ fs) = ⊥
  Match o m (ref b w ∷ is) (by_var s ∷ fs) = Place o (some m) w s b × Match o m is fs

  -- What an action in the module m does is lawful under these open calls. All but takes, turns and entries leave a depth that was reached before.
  abbrev pub law : List Open → ℕ → ℕ → Action → Type 0
  law o m d (a_constant v) = Unit {0}
  law o m d (a_take c t) = Is c t
  law o m d (a_read a t) = Unit {0}
  law o m d (an_index base w low high s v) = T (part_of P m w.inside) × (d ≤ deepest)
  law o m d (a_sign g v) = (t : Simple) × ok_sign g t × Fits t v × (d ≤ deepest)
  law o m d (an_operator p x y) = (u : Simple) × (t : Simple) × ok_operator p u t × Fits u x × Fits u y × (d ≤ deepest)
  law o m d (a_decision j v) = d ≤ deepest
  law o m d (a_test v) = d ≤ deepest
  law o m d a_turn = Unit {0}
  law o m d (a_store w c v) = (t : Simple) × Is c t × Fits t v × Named o (some m) w c × (d ≤ deepest)
  law o m d (a_write a v) = d ≤ deepest
  law o m d (an_entry n fs zs is) = Match o n is fs × FormalsOwned P m fs × AllOwned P m zs
  law o m d a_leave = d ≤ deepest
  law o m d (a_leave_with r t) = Is r t × (d ≤ deepest)

  abbrev pub Lawful : List Open → List Line → Type 0
  Lawful o [] = Unit {0}
  Lawful o (did at d a σ r ∷ l) = (r ≡ outcome d a σ) × law o at.inside d a × Lawful (opened o a) l
  Lawful o (was_given a t v ∷ l) = Lawful o l

  abbrev pub Good : List Open → Behaviour → Type 0
  Good o X = (es : List Event) → Lawful o (X es).log

  done_good : (o : List Open) (at : At) (d : ℕ) (a : Action) (σ : Cells) (k : ℤ → Run) → law o at.inside d a
      → ((v : ℤ) → Ok v ≡ outcome d a σ → Lawful (opened o a) (k v).log)
      → (r : Result ℤ Trap) → r ≡ outcome d a σ → Lawful o (goes_on at d a σ k r).log
  done_good o at d a σ k h g (Ok v) e = (e, h, g v e)
  done_good o at d a σ k h g (Err t) e = (e, h, tt)

  act_good : (o : List Open) (at : At) (d : ℕ) (a : Action) (k : ℤ → Behaviour) → law o at.inside d a
      → ((σ : Cells) (v : ℤ) → Ok v ≡ outcome d a σ → Good (opened o a) (k v)) → Good o (act at d a k)
  unfolding act
  act_good o at d a k h g [] = tt
  act_good o at d a k h g (step σ ∷ es) = done_good o at d a σ _ h (λ v e. g σ v e es) (outcome d a σ) refl
  act_good o at d a k h g (give v ∷ es) = act_good o at d a k h g es
  act_good o at d a k h g (took ∷ es) = act_good o at d a k h g es

  -- a part that gives what X says, and leaves the open calls as they were
  abbrev pub Safe : {A : Type 0} → List Open → (A → Type 0) → M A → Type 0
  Safe {A} o X m = (k : A → Behaviour) → ((a : A) → X a → Good o (k a)) → Good o (m k)

  if_good : (o : List Open) (b : Bool) (r s : Run) → (T b → Lawful o r.log) → Lawful o s.log → Lawful o (if_fits b r s).log
  if_good o true r s p q = p tt
  if_good o false r s p q = q

  await_good : (o : List Open) (a : ℕ) (t : Simple) → Safe o (Fits t) (await a t)
  unfolding await
  await_good o a t k g [] = tt
  await_good o a t k g (step σ ∷ es) = await_good o a t k g es
  await_good o a t k g (give v ∷ es) = if_good o (fits t v) _ _ (λ f. g v f es) (await_good o a t k g es)
  await_good o a t k g (took ∷ es) = await_good o a t k g es

  deliver_good : (o : List Open) (a : ℕ) (v : ℤ) → Safe o (λ _. Unit {0}) (deliver a v)
  unfolding deliver
  deliver_good o a v k g [] = tt
  deliver_good o a v k g (step σ ∷ es) = deliver_good o a v k g es
  deliver_good o a v k g (give w ∷ es) = deliver_good o a v k g es
  deliver_good o a v k g (took ∷ es) = g tt tt es

  unroll_good : (o : List Open) (F : Behaviour → Behaviour) → ((X : Behaviour) → Good o X → Good o (F X))
      → (n : ℕ) → Good o (unroll F n)
  unroll_good o F h zero es = tt
  unroll_good o F h (suc n) es = h (unroll F n) (unroll_good o F h n) es

  again_good : (o : List Open) (F : M Done → M Done) (k : Done → Behaviour)
      → ((X : Behaviour) → Good o X → Good o (F (λ _. X) k)) → Good o (again_and_again F k)
  unfolding again_and_again
  again_good o F k h es = unroll_good o (λ again. F (λ _. again) k) h (suc (length es)) es

  choose_good : {A : Type 0} (o : List Open) (b : Bool) (m n : M A) (k : A → Behaviour) → Good o (m k) → Good o (n k) → Good o (choose b m n k)
  choose_good o true m n k p q = p
  choose_good o false m n k p q = q

  -- what the var formals stand for
  abbrev pub Stands : List Open → List Shape → List ℕ → Type 0
  Stands o f ls = (n : ℕ) (s : Shape) → get_elem? f n ≡ some s → Each (λ c t. Is c t × Lent P c o) (get_or ls n 0) s

  lent_here : (o : List Open) (m b : ℕ) (w : Way) (u : Shape) (is : List Item) (fs : List Formal) (c : ℕ) → Part c b u → Named o (some m) w c
      → LentBy P c (Lent P c o) m (ref b w ∷ is) (by_var u ∷ fs)
  lent_here o m b direct u is fs c q n = inl (q, n)
  lent_here o m b onward u is fs c q n = inl (q, n)

  lent_there : (c : ℕ) (X : Type 0) (m b : ℕ) (w : Way) (u : Shape) (is : List Item) (fs : List Formal) → LentBy P c X m is fs
      → LentBy P c X m (ref b w ∷ is) (by_var u ∷ fs)
  lent_there c X m b direct u is fs h = inr h
  lent_there c X m b onward u is fs h = inr h

  -- in a call the var formals stand for what its actuals lend
  match_lends : (o : List Open) (m : ℕ) (is : List Item) (fs : List Formal) → Match o m is fs
      → (n : ℕ) (s : Shape) → get_elem? (var_shapes fs) n ≡ some s
      → Each (λ c t. Is c t × LentBy P c (Lent P c o) m is fs) (get_or (lent is) n 0) s
  match_lends o m [] [] h n s e = absurd (none_some e)
  match_lends o m [] (f ∷ fs) h n s e = absurd h
  match_lends o m (i ∷ is) [] h n s e = absurd (none_some e)
  match_lends o m (val v ∷ is) (by_const x t ∷ fs) h n s e = match_lends o m is fs h.1 n s e
  match_lends o m (val v ∷ is) (by_var u ∷ fs) h n s e = absurd h
  match_lends o m (ref b w ∷ is) (by_const x t ∷ fs) h n s e = absurd h
  match_lends o m (ref b w ∷ is) (by_var u ∷ fs) h zero s e =
      subst (Each _ b) (some_inj e) (each_map _ _ b u (λ c t q p. (p.0, lent_here o m b w u is fs c q p.1)) h.0)
  match_lends o m (ref b w ∷ is) (by_var u ∷ fs) h (suc n) s e =
      each_map _ _ _ s (λ c t q p. (p.0, lent_there c _ m b w u is fs p.1)) (match_lends o m is fs h.1 n s e)

  onward_named : (o : List Open) (who : Option ℕ) (c : ℕ) → Lent P c o → Named o who onward c
  onward_named o none c h = h
  onward_named o (some m) c h = h

  module _ (dealt : Dealt 0 P.variables) where
    own_named : (o : List Open) (who : Option ℕ) (x : Variable) (c : ℕ) (t : Simple) → Allowed P who x → CellAt P c (cell x.inside x.fixed t) → Named o who direct c
    own_named o none x c t a e = tt
    own_named o (some m) x c t a e = (cell x.inside x.fixed t, e, a.0, a.1)

    name_place : (o : List Open) (f : List Shape) (ls : List ℕ) → Stands o f ls → (who : Option ℕ) (n : Name) (s : Shape) → ok_name P f who n s
        → Place o who (way (whole n)) s (cell_of_name ls n)
    name_place o f ls st who (own x) s h =
        subst (λ s. Place o who direct s x.cell) h.1
        (each_map _ _ x.cell x.shape (λ c t q e. ((x.inside, x.fixed, e), own_named o who x c t h.2 e)) (dealt_each P dealt x h.0))
    name_place o f ls st who (formal n) s h = each_map _ _ (get_or ls n 0) s (λ c t q p. (p.0, onward_named o who c p.1)) (st n s h)

    -- the result of a function, and its cell
    pub simple_is : (m : ℕ) (x : Variable) (t : Simple) → OwnedSimple P m x t → Is x.cell t
    simple_is m x t h =
        subst (λ s. Each (λ c t. Is c t) x.cell s) h.2 (each_map _ _ x.cell x.shape (λ c t q e. (x.inside, x.fixed, e)) (dealt_each P dealt x h.0))

    mutual
      eval_safe : (o : List Open) (f : List Shape) (ls : List ℕ) → Stands o f ls
          → (d : ℕ) (e : Expr) (t : Simple) → ok_expr P f e t → Safe o (λ v. Fits t v × (suc d ≤ deepest)) (eval ls d e)
      eval_safe o f ls st d (constant at u v) t h k g =
          act_good o at _ _ k tt λ σ w e. let r = outcome_ok _ _ σ w e in g w (subst (Fits t) (ok_inj r.0) h.1, r.2)
      eval_safe o f ls st d (value at u x) t h k g =
          locate_safe true o f ls st d none x (simple t) h.1 _ λ c p. act_good o at _ _ k (subst (Is c) (sym h.0) p.0) λ σ v e.
          let r = outcome_ok _ _ σ v e in g v (subst (Fits t) (ok_inj r.0) (as_type (get_or σ c (pos 0)) (sym h.0) r.1), r.2)
      eval_safe o f ls st d (register at u a) t h k g =
          act_good o at _ _ _ tt λ σ w e. await_good o a u k λ v p. g v (as_type v (sym h.0) p, (outcome_ok _ _ σ w e).2)
      eval_safe o f ls st d (unary at s e) t h k g =
          eval_safe o f ls st d e t h.1 _ λ v p. act_good o at _ _ k (t, h.0, p.0, p.1) λ σ w q.
          g w (sign_fits s t v w h.0 p.0 (outcome_ok _ _ σ w q).0, p.1)
      eval_safe o f ls st d (binary at p u a b) t h k g =
          eval_safe o f ls st d a u h.1 _ λ x px. eval_safe o f ls st (suc d) b u h.2 _ λ y py.
          act_good o at _ _ k (u, t, h.0, px.0, py.0, px.1) λ σ v e. g v (operator_fits p u t x y v h.0 px.0 py.0 (outcome_ok _ _ σ v e).0, px.1)
      eval_safe o f ls st d (junction at j a b) t h k g =
          eval_safe o f ls st d a boolean h.1 _ λ x p. act_good o at _ _ _ (decision_low d (needed j x) p.1) λ _ _ _.
          choose_good o (needed j x) _ _ k (eval_safe o f ls st d b boolean h.2 k (λ v q. g v (as_type v h.0 q.0, q.1))) (g x (as_type x h.0 p.0, p.1))
      eval_safe o f ls st d (apply at p xs) t h k g =
          actuals_safe o f ls st d at.inside xs [] (function_formals p) [] tt h.1 _ λ is q. applied_safe o p d at is t h.0 q k g

      locate_safe : (taken : Bool) (o : List Open) (f : List Shape) (ls : List ℕ) → Stands o f ls
          → (d : ℕ) (who : Option ℕ) (x : Designator) (s : Shape) → ok_designator P f who x s → Safe o (Place o who (way x) s) (locate taken ls d x)
      locate_safe taken o f ls st d who (whole n) s h k g = g _ (name_place o f ls st who n s h)
      locate_safe taken o f ls st d who (element at x w low high u e) s h k g =
          locate_safe false o f ls st d who x (array w low high s) h.2 _ λ base p. eval_safe o f ls st (suc d) e integer h.3 _ λ v b.
          act_good o at _ _ _ (h.1, decision_low d taken (omega (arith, b.1))) λ σ c q.
          let r = index_ok base low high u v c (outcome_ok _ _ σ c q).0 in
          g (nat_abs c) (subst (Place o who (way x) s) (ap nat_abs r.1) (subst (λ u. Place o who (way x) s (element_cell base low u v)) (sym h.0) (p v r.0)))
      locate_safe taken o f ls st d who (part at x w fs n) s h k g =
          locate_safe taken o f ls st d who x (record_of w fs) h.1 _ λ base p. g _ (field_each _ base fs n s h.2 p)

      actuals_safe : (o : List Open) (f : List Shape) (ls : List ℕ) → Stands o f ls
          → (d m : ℕ) (xs : Actuals) (is : List Item) (fs ds : List Formal) → Match o m is ds → ok_actuals P f m xs fs
          → Safe o (λ is. Match o m is (reverse_aux fs ds)) (actuals ls d xs is)
      actuals_safe o f ls st d m no_more is [] ds q h k g = g is q
      actuals_safe o f ls st d m no_more is (b ∷ fs) ds q h k g = absurd h
      actuals_safe o f ls st d m (a_value e xs) is [] ds q h k g = absurd h
      actuals_safe o f ls st d m (a_value e xs) is (by_const x t ∷ fs) ds q h k g =
          eval_safe o f ls st d e t h.0 _ λ v p. actuals_safe o f ls st (suc d) m xs (val v ∷ is) fs (by_const x t ∷ ds) (p.0, q) h.1 k g
      actuals_safe o f ls st d m (a_value e xs) is (by_var s ∷ fs) ds q h k g = absurd h
      actuals_safe o f ls st d m (a_variable x xs) is [] ds q h k g = absurd h
      actuals_safe o f ls st d m (a_variable x xs) is (by_const y t ∷ fs) ds q h k g = absurd h
      actuals_safe o f ls st d m (a_variable x xs) is (by_var s ∷ fs) ds q h k g =
          locate_safe false o f ls st d (some m) x s h.0 _ λ c p. actuals_safe o f ls st (suc d) m xs (ref c (way x) ∷ is) fs (by_var s ∷ ds) (p, q) h.1 k g

      pub exec_safe : (o : List Open) (f : List Shape) (ls : List ℕ) → Stands o f ls
          → (d : ℕ) (s : Stmt) → ok_stmt P f s → Safe o (λ _. Unit {0}) (exec ls d s)
      exec_safe o f ls st d skip h k g = g tt tt
      exec_safe o f ls st d (seq a b) h k g = exec_safe o f ls st d a h.0 _ λ _ _. exec_safe o f ls st d b h.1 k g
      exec_safe o f ls st d (assign at t x e) h k g =
          locate_safe false o f ls st d (some at.inside) x (simple t) h.0 _ λ c p. eval_safe o f ls st (suc d) e t h.1 _ λ v b.
          act_good o at _ _ _ (t, p.0, b.0, p.1, omega (arith, b.1)) λ _ _ _. g tt tt
      exec_safe o f ls st d (offer at t a e) h k g =
          eval_safe o f ls st (suc d) e t h.1 _ λ v b. act_good o at _ _ _ (omega (arith, b.1)) λ _ _ _. deliver_good o a v k g
      exec_safe o f ls st d (if xs) h k g = arms_safe o f ls st (suc d) xs h k g
      exec_safe o f ls st d (while at q e s) h k g =
          again_good o _ k λ X gX. act_good o at _ _ _ tt λ _ _ _. eval_safe o f ls st (suc d) e boolean h.0 _ λ v b.
          act_good o q _ _ _ (omega (arith, b.1)) λ _ _ _. choose_good o (truth v) _ _ k (exec_safe o f ls st (suc d) s h.1 _ λ _ _. gX) (g tt tt)
      exec_safe o f ls st d (repeat at s q e) h k g =
          again_good o _ k λ X gX. act_good o at _ _ _ tt λ _ _ _. exec_safe o f ls st (suc d) s h.0 _ λ _ _.
          eval_safe o f ls st (suc d) e boolean h.1 _ λ v b. act_good o q _ _ _ (omega (arith, b.1)) λ _ _ _. choose_good o (truth v) _ _ k (g tt tt) gX
      exec_safe o f ls st d (loop at b) h k g =
          again_good o _ k λ X gX. act_good o at _ _ _ tt λ _ _ _. turn_safe o f ls st (suc d) b h X gX k g
      exec_safe o f ls st d (call at p xs) h k g =
          actuals_safe o f ls st d at.inside xs [] (procedure_formals p) [] tt h.1 _ λ is q. called_safe o p d at is h.0 q k g

      arms_safe : (o : List Open) (f : List Shape) (ls : List ℕ) → Stands o f ls
          → (d : ℕ) (xs : Arms) → ok_arms P f xs → Safe o (λ _. Unit {0}) (arms ls d xs)
      arms_safe o f ls st d (otherwise s) h k g = exec_safe o f ls st d s h k g
      arms_safe o f ls st d (arm at e s xs) h k g =
          eval_safe o f ls st d e boolean h.0 _ λ v b. act_good o at _ _ _ (omega (arith, b.1)) λ _ _ _.
          choose_good o (truth v) _ _ k (exec_safe o f ls st d s h.1 k g) (arms_safe o f ls st d xs h.2 k g)

      turn_safe : (o : List Open) (f : List Shape) (ls : List ℕ) → Stands o f ls
          → (d : ℕ) (b : Parts) → ok_parts P f b → (X : Behaviour) → Good o X → Safe o (λ _. Unit {0}) (turn ls d b (λ _. X))
      turn_safe o f ls st d (ends s) h X gX k g = exec_safe o f ls st d s h _ λ _ _. gX
      turn_safe o f ls st d (exits s at e s' b) h X gX k g =
          exec_safe o f ls st d s h.0 _ λ _ _. eval_safe o f ls st d e boolean h.1 _ λ v c. act_good o at _ _ _ (omega (arith, c.1)) λ _ _ _.
          choose_good o (truth v) _ _ k (exec_safe o f ls st d s' h.2 k g) (turn_safe o f ls st d b h.3 X gX k g)

      applied_safe : (o : List Open) (p : Function) (d : ℕ) (at : At) (is : List Item) (t : Simple)
          → ok_function P p t → Match o at.inside is (last_first (function_formals p)) → Safe o (λ v. Fits t v × (suc d ≤ deepest)) (applied p d at is)
      applied_safe o (function m fs r u vs body) d at is t h q k g =
          act_good o _ _ _ _ (q, formals_turned P m fs [] h.1 tt, ((h.2.0, h.2.1), h.3)) λ ρ x b.
          let low = (outcome_ok _ _ ρ x b).2 in
          exec_safe (opened o (an_entry at.inside (last_first fs) (r ∷ vs) is)) (var_shapes (last_first fs)) (lent is)
          (match_lends o at.inside is (last_first fs) q) (suc d) body h.4 _ λ _ _.
          act_good (opened o (an_entry at.inside (last_first fs) (r ∷ vs) is)) _ _ _ k (simple_is m r u h.2, low) λ σ v e.
          let w = outcome_ok _ _ σ v e in g v (as_type v (sym h.0) (subst (Fits u) (ok_inj w.0) w.1), low)

      called_safe : (o : List Open) (p : Procedure) (d : ℕ) (at : At) (is : List Item)
          → ok_procedure P p → Match o at.inside is (last_first (procedure_formals p)) → Safe o (λ _. Unit {0}) (called p d at is)
      called_safe o (procedure m fs vs body) d at is h q k g =
          act_good o _ _ _ _ (q, formals_turned P m fs [] h.0 tt, h.1) λ ρ x b.
          let low = (outcome_ok _ _ ρ x b).2 in
          exec_safe (opened o (an_entry at.inside (last_first fs) vs is)) (var_shapes (last_first fs)) (lent is)
          (match_lends o at.inside is (last_first fs) q) (suc d) body h.2 _ λ _ _.
          act_good (opened o (an_entry at.inside (last_first fs) vs is)) _ _ _ _ (omega (arith, low)) λ _ _ _. g tt tt
