-- From lawful actions: the cells stay typed, and an action traps exactly where it has a cause.
use Prim.{tt, absurd}
use Rattle.std.proofs.Common.{◌≡◌, ℕ, zero, suc, ◌<◌, ◌≤◌, Bool, true, false, not, T, leb, ◌⊎◌, List, [], ◌∷◌, length, get_or, drop, set, replicate, ℤ, pos, ◌+ℤ◌, ◌-ℤ◌, ◌*ℤ◌, Ok, Err, Result, sym, refl, ap, ◌∙◌, subst, inl, inr, arith, leb→le, get_or-take}
use lib.ListN.{length-replicate, get_or-replicate, get_or-append}
use lib.Dec.{leb-zero, nleb→lt}
use Rattle.fault.specs.declared.Trap.{Trap}
use Rattle.fault.specs.Numbers.{trap_number}
use Rattle.fault.specs.declared.Trap.TheVariants.{Index, Divisor, Beyond, Depth, Foreign}
use Rattle.program.specs.Types.{Simple, fits, size}
use Rattle.program.specs.Types.Simple.{integer, boolean, char, enumeration}
use Rattle.program.specs.Trees.{Variable, Formal, Stmt, Program}
use Rattle.program.specs.Trees.Formal.{by_const, by_var}
use Rattle.program.specs.Trees.Operator.{plus, minus, times, over, div, modulo}
use Rattle.program.specs.Cells.{Cell, cell, CellAt, table, Dealt}
use Rattle.program.specs.WellFormed.{FormalsOwned, ok_stmt, ok_bodies, WellFormed}
use Rattle.program.proofs.Dealing.{none_some, some_inj, elem_below}
use Rattle.meaning.specs.Actions.{Item, Action, Cells, Line, Event, gives, finds, first_trap, outcome, cleared, zeroed, placed, written, left, started, deepest}
use Rattle.meaning.specs.Actions.Item.{val, ref}
use Rattle.meaning.specs.Actions.Action.{a_constant, a_take, a_read, an_index, a_sign, an_operator, a_decision, a_test, a_turn, a_store, a_write, an_entry, a_leave, a_leave_with}
use Rattle.meaning.specs.Actions.Line.{did, was_given}
use Rattle.meaning.specs.Meaning.{meaning, whole_body}
use Rattle.meaning.specs.Hiding.{Open, opened}
use Rattle.meaning.specs.Typing.{SameOwn, Undisturbed, Typed, Deepens, Causes, TrapsExactly, StaysTyped, TypesKept}
use Rattle.meaning.specs.Typing.Deepens.{constant_taken, variable_taken, register_read, turn_begun, call_entered}
use Rattle.meaning.specs.Typing.Causes.{out_of_bounds, divisor_0, div_below_1, mod_below_1, sum_beyond, difference_beyond, product_beyond, too_deep}
use Rattle.meaning.proofs.Operators.{Fits, ok_err, err_inj, sign_caused, operator_caused, index_caused, index_traps, beyond_traps, over_traps, div_traps, mod_traps}
use Rattle.meaning.proofs.Lawful.{Is, law, Lawful, Match, simple_is, exec_safe}

pub zero_fits : (t : Simple) → T (fits t (pos 0))
zero_fits integer = tt
zero_fits boolean = tt
zero_fits char = tt
zero_fits (enumeration writing last) = rw leb-zero tt

-- a cell after a write is the written one, or as before
pub set_is : (σ : Cells) (c : ℕ) (v : ℤ) (d : ℕ)
    → ((d ≡ c) × (get_or (set σ c v) d (pos 0) ≡ v)) ⊎ (get_or (set σ c v) d (pos 0) ≡ get_or σ d (pos 0))
set_is [] c v d = inr refl
set_is (x ∷ σ) zero v zero = inl (refl, refl)
set_is (x ∷ σ) zero v (suc d) = inr refl
set_is (x ∷ σ) (suc c) v zero = inr refl
set_is (x ∷ σ) (suc c) v (suc d) = elim (set_is σ c v d) [ inl e ↦ inl (ap suc e.0, e.1) | inr e ↦ inr e ]

module _ (P : Program) where
  set_typed : (σ : Cells) (c : ℕ) (v : ℤ) → Typed P σ → ((x : Cell) → CellAt P c x → T (fits x.type v)) → Typed P (set σ c v)
  set_typed σ c v h f d x e =
      elim (set_is σ c v d) [
        | inl q ↦ subst (λ w. T (fits x.type w)) (sym q.1) (f x (subst (λ d. CellAt P d x) q.0 e))
        | inr q ↦ subst (λ w. T (fits x.type w)) (sym q) (h d x e)
      ]

  -- a value of the type of a cell fits whatever is said of that cell
  fits_cell : (c : ℕ) (t : Simple) (v : ℤ) → Is P c t → Fits t v → (x : Cell) → CellAt P c x → T (fits x.type v)
  fits_cell c t v i f x e = let q : cell i.0 i.1 t ≡ x = some_inj (sym i.2 ∙ e) in subst (λ x. T (fits x.type v)) q f

  cleared_typed : (c n : ℕ) (σ : Cells) → Typed P σ → Typed P (cleared c n σ)
  cleared_typed c zero σ h = h
  cleared_typed c (suc n) σ h = set_typed (cleared (suc c) n σ) c (pos 0) (cleared_typed (suc c) n σ h) (λ x e. zero_fits x.type)

  zeroed_typed : (xs : List Variable) (σ : Cells) → Typed P σ → Typed P (zeroed xs σ)
  zeroed_typed [] σ h = h
  zeroed_typed (x ∷ xs) σ h = cleared_typed x.cell (size x.shape) (zeroed xs σ) (zeroed_typed xs σ h)

  module _ (dealt : Dealt 0 P.variables) where
    placed_typed : (o : List Open) (n m : ℕ) (fs : List Formal) (is : List Item) (σ : Cells)
        → Match P o n is fs → FormalsOwned P m fs → Typed P σ → Typed P (placed fs is σ)
    placed_typed o n m [] is σ q w h = h
    placed_typed o n m (by_const x t ∷ fs) [] σ q w h = h
    placed_typed o n m (by_const x t ∷ fs) (val v ∷ is) σ q w h =
        set_typed (placed fs is σ) x.cell v (placed_typed o n m fs is σ q.1 w.1 h) (fits_cell x.cell t v (simple_is P dealt m x t w.0) q.0)
    placed_typed o n m (by_const x t ∷ fs) (ref b y ∷ is) σ q w h = absurd q
    placed_typed o n m (by_var s ∷ fs) [] σ q w h = h
    placed_typed o n m (by_var s ∷ fs) (val v ∷ is) σ q w h = absurd q
    placed_typed o n m (by_var s ∷ fs) (ref b y ∷ is) σ q w h = placed_typed o n m fs is σ q.1 w h

    written_typed : (o : List Open) (m d : ℕ) (a : Action) → law P o m d a → (σ : Cells) → Typed P σ → Typed P (written a σ)
    written_typed o m d (a_constant v) l σ h = h
    written_typed o m d (a_take c t) l σ h = h
    written_typed o m d (a_read a t) l σ h = h
    written_typed o m d (an_index base w low high s v) l σ h = h
    written_typed o m d (a_sign g v) l σ h = h
    written_typed o m d (an_operator p x y) l σ h = h
    written_typed o m d (a_decision j v) l σ h = h
    written_typed o m d (a_test v) l σ h = h
    written_typed o m d a_turn l σ h = h
    written_typed o m d (a_store w c v) l σ h = set_typed σ c v h (fits_cell c l.0 v l.1 l.2)
    written_typed o m d (a_write a v) l σ h = h
    written_typed o m d (an_entry n fs zs is) l σ h = placed_typed o n m fs is (zeroed zs σ) l.0 l.1 (zeroed_typed zs σ h)
    written_typed o m d a_leave l σ h = h
    written_typed o m d (a_leave_with r t) l σ h = h

    left_typed : (o : List Open) (m d : ℕ) (a : Action) → law P o m d a → (r : Result ℤ Trap) (σ : Cells) → Typed P σ → Typed P (left a r σ)
    left_typed o m d a l (Ok v) σ h = written_typed o m d a l σ h
    left_typed o m d a l (Err t) σ h = h

  -- cells that hold values of their types are foreign to none
  finds_typed : (o : List Open) (m d : ℕ) (a : Action) → law P o m d a → (σ : Cells) → Typed P σ → T (finds a σ)
  finds_typed o m d (a_constant v) l σ h = tt
  finds_typed o m d (a_take c t) l σ h = h c (cell l.0 l.1 t) l.2
  finds_typed o m d (a_read a t) l σ h = tt
  finds_typed o m d (an_index base w low high s v) l σ h = tt
  finds_typed o m d (a_sign g v) l σ h = tt
  finds_typed o m d (an_operator p x y) l σ h = tt
  finds_typed o m d (a_decision j v) l σ h = tt
  finds_typed o m d (a_test v) l σ h = tt
  finds_typed o m d a_turn l σ h = tt
  finds_typed o m d (a_store w c v) l σ h = tt
  finds_typed o m d (a_write a v) l σ h = tt
  finds_typed o m d (an_entry n fs zs is) l σ h = tt
  finds_typed o m d a_leave l σ h = tt
  finds_typed o m d (a_leave_with r t) l σ h = h r (cell l.0.0 l.0.1 t) l.0.2

  -- a trap that lies in what an action does has its cause
  gives_caused : (o : List Open) (m d : ℕ) (a : Action) → law P o m d a → (σ : Cells) (u : Trap) → gives a σ ≡ Err u → Causes u d a
  gives_caused o m d (a_constant v) l σ u e = absurd (ok_err e)
  gives_caused o m d (a_take c t) l σ u e = absurd (ok_err e)
  gives_caused o m d (a_read a t) l σ u e = absurd (ok_err e)
  gives_caused o m d (an_index base w low high s v) l σ u e = index_caused d base w low high s v u e
  gives_caused o m d (a_sign g v) l σ u e = absurd (sign_caused g l.0 v u l.1 l.2 e)
  gives_caused o m d (an_operator p x y) l σ u e = operator_caused d p l.0 l.1 x y u l.2 l.3 e
  gives_caused o m d (a_decision j v) l σ u e = absurd (ok_err e)
  gives_caused o m d (a_test v) l σ u e = absurd (ok_err e)
  gives_caused o m d a_turn l σ u e = absurd (ok_err e)
  gives_caused o m d (a_store w c v) l σ u e = absurd (ok_err e)
  gives_caused o m d (a_write a v) l σ u e = absurd (ok_err e)
  gives_caused o m d (an_entry n fs zs is) l σ u e = absurd (ok_err e)
  gives_caused o m d a_leave l σ u e = absurd (ok_err e)
  gives_caused o m d (a_leave_with r t) l σ u e = absurd (ok_err e)

  -- what is too deep is a take, a turn or an entry
  deepens : (o : List Open) (m d : ℕ) (a : Action) → law P o m d a → deepest < d → Deepens a
  deepens o m d (a_constant v) l h = constant_taken
  deepens o m d (a_take c t) l h = variable_taken
  deepens o m d (a_read a t) l h = register_read
  deepens o m d (an_index base w low high s v) l h = absurd (omega (arith, l.1))
  deepens o m d (a_sign g v) l h = absurd (omega (arith, l.3))
  deepens o m d (an_operator p x y) l h = absurd (omega (arith, l.5))
  deepens o m d (a_decision j v) l h = absurd (omega arith)
  deepens o m d (a_test v) l h = absurd (omega arith)
  deepens o m d a_turn l h = turn_begun
  deepens o m d (a_store w c v) l h = absurd (omega (arith, l.4))
  deepens o m d (a_write a v) l h = absurd (omega arith)
  deepens o m d (an_entry n fs zs is) l h = call_entered
  deepens o m d a_leave l h = absurd (omega arith)
  deepens o m d (a_leave_with r t) l h = absurd (omega (arith, l.1))

-- no cause has a number above 34
cause_number_lem : (t : Trap) (d : ℕ) (a : Action) → Causes t d a → trap_number t ≤ 34
cause_number_lem t d a (out_of_bounds h) = omega arith
cause_number_lem t d a (divisor_0 h) = omega arith
cause_number_lem t d a (div_below_1 h) = omega arith
cause_number_lem t d a (mod_below_1 h) = omega arith
cause_number_lem t d a (sum_beyond h) = omega arith
cause_number_lem t d a (difference_beyond h) = omega arith
cause_number_lem t d a (product_beyond h) = omega arith
cause_number_lem t d a (too_deep x h) = omega arith

-- a trap in what an action does comes first
err_first : (d : ℕ) (a : Action) (σ : Cells) (t : Trap) → gives a σ ≡ Err t → outcome d a σ ≡ Err t
unfolding outcome
err_first d a σ t e = ap (λ r. first_trap r (leb d deepest) (finds a σ)) e

-- where the depth is above the greatest there is a trap, at the latest for that
deep_traps : (d : ℕ) (a : Action) (σ : Cells) → deepest < d → ((u : Trap) → gives a σ ≡ Err u → trap_number u ≤ 34)
    → (u : Trap) × (outcome d a σ ≡ Err u) × (trap_number u ≤ 34)
unfolding outcome
deep_traps d a σ l n = go (gives a σ) n (leb d deepest) (λ t. t)
  where
    go : (r : Result ℤ Trap) → ((u : Trap) → r ≡ Err u → trap_number u ≤ 34) → (b : Bool) → (T b → T (leb d deepest))
        → (u : Trap) × (first_trap r b (finds a σ) ≡ Err u) × (trap_number u ≤ 34)
    go (Err t) n b k = (t, refl, n t refl)
    go (Ok v) n true k = let p = leb→le d deepest (k tt) in absurd (omega arith)
    go (Ok v) n false k = (Depth, refl, omega arith)

cause_traps : (t : Trap) (d : ℕ) (a : Action) → Causes t d a → (σ : Cells) → ((u : Trap) → gives a σ ≡ Err u → trap_number u ≤ 34)
    → (u : Trap) × (outcome d a σ ≡ Err u) × (trap_number u ≤ trap_number t)
cause_traps t d a (out_of_bounds {base = base} {w = w} {low = low} {high = high} {v = v} {s = s} h) σ n =
    (Index, err_first d (an_index base w low high s v) σ Index (index_traps base low high s v h), omega arith)
cause_traps t d a (divisor_0 {x = x} {y = y} h) σ n = (Divisor, err_first d (an_operator over x y) σ Divisor (over_traps x y h), omega arith)
cause_traps t d a (div_below_1 {x = x} {y = y} h) σ n = (Divisor, err_first d (an_operator div x y) σ Divisor (div_traps x y h), omega arith)
cause_traps t d a (mod_below_1 {x = x} {y = y} h) σ n = (Divisor, err_first d (an_operator modulo x y) σ Divisor (mod_traps x y h), omega arith)
cause_traps t d a (sum_beyond {x = x} {y = y} h) σ n = (Beyond, err_first d (an_operator plus x y) σ Beyond (beyond_traps (x +ℤ y) h), omega arith)
cause_traps t d a (difference_beyond {x = x} {y = y} h) σ n = (Beyond, err_first d (an_operator minus x y) σ Beyond (beyond_traps (x -ℤ y) h), omega arith)
cause_traps t d a (product_beyond {x = x} {y = y} h) σ n = (Beyond, err_first d (an_operator times x y) σ Beyond (beyond_traps (x *ℤ y) h), omega arith)
cause_traps t d a (too_deep x h) σ n = deep_traps d a σ h n

-- a trap of an action that finds its cells as they should be has its cause
outcome_caused : (d : ℕ) (a : Action) (σ : Cells) → T (finds a σ) → (deepest < d → Deepens a) → ((u : Trap) → gives a σ ≡ Err u → Causes u d a)
    → (t : Trap) → outcome d a σ ≡ Err t → Causes t d a
unfolding outcome
outcome_caused d a σ f m n t e = go (gives a σ) n (leb d deepest) (λ k. k) (finds a σ) f e
  where
    go : (r : Result ℤ Trap) → ((u : Trap) → r ≡ Err u → Causes u d a) → (b : Bool) → (T (not b) → T (not (leb d deepest)))
        → (c : Bool) → T c → first_trap r b c ≡ Err t → Causes t d a
    go (Err u) n b k c f e = n t e
    go (Ok v) n true k true f e = absurd (ok_err e)
    go (Ok v) n true k false f e = absurd f
    go (Ok v) n false k c f e = subst (λ t. Causes t d a) (err_inj e) (let l = nleb→lt d deepest (k tt) in too_deep (m l) l)

traps_exactly : (P : Program) (o : List Open) (m d : ℕ) (a : Action) → law P o m d a → (σ : Cells) → Typed P σ → TrapsExactly d a (outcome d a σ)
traps_exactly P o m d a l σ h =
    let n = gives_caused P o m d a l σ in
    let c = outcome_caused d a σ (finds_typed P o m d a l σ h) (deepens P o m d a l) n in
    record {
      caused = c;
      traps = λ t p. cause_traps t d a p σ (λ u e. cause_number_lem u d a (n u e));
      never_foreign = λ e. let p = cause_number_lem Foreign d a (c Foreign e) in omega arith;
    }

-- what holds of the program's cells holds of all cells that have the same
own_typed : (P : Program) (ρ σ : Cells) → SameOwn P ρ σ → Typed P σ → Typed P ρ
own_typed P ρ σ e h c x q =
    let l = elem_below (table P) c x q in
    let same : get_or σ c (pos 0) ≡ get_or ρ c (pos 0) =
    sym (get_or-take (length (table P)) σ c (pos 0) l) ∙ ap (λ τ. get_or τ c (pos 0)) (sym e) ∙ get_or-take (length (table P)) ρ c (pos 0) l in
    subst (λ v. T (fits x.type v)) same (h c x q)

stays_typed : (P : Program) → Dealt 0 P.variables → (o : List Open) (l : List Line) → Lawful P o l
    → (σ : Cells) → Typed P σ → Undisturbed P σ l → StaysTyped P σ l
stays_typed P w o [] g σ h u = h
stays_typed P w o (did at d a ρ r ∷ l) g σ h u =
    let found = own_typed P ρ σ u.0 h in (
      h,
      found,
      subst (TrapsExactly d a) (sym g.0) (traps_exactly P o at.inside d a g.1 ρ found),
      stays_typed P w (opened o a) l g.2 (left a r ρ) (left_typed P w o at.inside d a g.1 r ρ found) u.1,
    )
stays_typed P w o (was_given a t v ∷ l) g σ h u = stays_typed P w o l g σ h u

-- the whole of a well-formed program is lawful
bodies_ok : (P : Program) (ss : List Stmt) → ok_bodies P ss → ok_stmt P [] (whole_body ss)
bodies_ok P [] h = tt
bodies_ok P (s ∷ ss) h = (h.0, bodies_ok P ss h.1)

pub lawful : (P : Program) → WellFormed P → (es : List Event) → Lawful P [] (meaning P es).log
lawful P w es =
    exec_safe P w.1 [] [] [] (λ n u e. absurd (none_some e)) 0 (whole_body P.bodies) (bodies_ok P P.bodies w.2) (λ _ _. _) (λ _ _ _. tt) es

-- after a start every cell of the program holds 0
started_typed : (P : Program) (σ : Cells) → Typed P (started P σ)
started_typed P σ c x e =
    let l = elem_below (table P) c x e in
    let n : length (replicate (length (table P)) (pos 0)) ≡ length (table P) = length-replicate (length (table P)) (pos 0) in
    subst (λ v. T (fits x.type v))
    (sym (get_or-append (replicate (length (table P)) (pos 0)) (drop (length (table P)) σ) (pos 0) c (omega arith)
    ∙ get_or-replicate (length (table P)) c (pos 0) (pos 0) l))
    (zero_fits x.type)

pub types_kept_lem : TypesKept
types_kept_lem P w es σ u = stays_typed P w.1 [] (meaning P es).log (lawful P w es) (started P σ) (started_typed P σ) u
