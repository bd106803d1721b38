-- From lawful actions: who changes a cell, and what never changes.
use Prim.{tt, absurd}
use Rattle.std.proofs.Common.{◌≡◌, ℕ, zero, suc, ◌+◌, ◌<◌, ◌≤◌, Bool, true, false, not, ◌||◌, T, eqb, ◌⊎◌, List, [], ◌∷◌, length, get_or, drop, set, ℤ, pos, Ok, Err, Result, sym, refl, ◌∙◌, subst, inl, inr, arith, T_not, length-set, drop-set-lt}
use mathlib.Core.Option.{some}
use lib.Dec.{eqb_refl}
use Rattle.fault.specs.declared.Trap.{Trap}
use Rattle.program.specs.Types.{Simple, size}
use Rattle.program.specs.Trees.{At, Variable, Formal, Program}
use Rattle.program.specs.Trees.Formal.{by_const, by_var}
use Rattle.program.specs.Cells.{Cell, cell, CellAt, Mine, table, Dealt, inside_of, part_of}
use Rattle.program.specs.WellFormed.{Owned, OwnedSimple, FormalsOwned, AllOwned}
use Rattle.program.proofs.Dealing.{elem_below, dealt_cells, some_inj}
use Rattle.meaning.specs.Actions.{Way, Item, Action, Cells, Line, cleared, zeroed, placed, written, left}
use Rattle.meaning.specs.Actions.Way.{direct, onward}
use Rattle.meaning.specs.Actions.Item.{val, ref}
use Rattle.meaning.specs.Actions.Action.{a_constant, a_take, a_read, an_index, a_sign, an_operator, a_decision, a_test, a_turn, a_store, a_write, an_entry, a_leave, a_leave_with}
use Rattle.meaning.specs.Actions.Line.{did, was_given}
use Rattle.meaning.specs.Meaning.{meaning}
use Rattle.meaning.specs.Hiding.{Open, opened, LentBy, Lent, ByFormal, Entered, Minds, Hides, ModulesHide}
use Rattle.meaning.specs.Hiding.ByFormal.{store_onward}
use Rattle.meaning.specs.Hiding.Entered.{by_entry}
use Rattle.meaning.proofs.Lawful.{Named, law, Lawful, simple_is}
use Rattle.meaning.proofs.Typing.{set_is, lawful}

-- a module's text is part of itself
part_of_itself : (P : Program) (m : ℕ) → T (part_of P m m)
part_of_itself P m = go (length P.modules) m
  where
    or_left : (p q : Bool) → T p → T (p || q)
    or_left true q h = tt
    or_left false q h = absurd h

    go : (k m : ℕ) → T (inside_of k P.modules m m)
    go zero m = eqb_refl m
    go (suc k) m = or_left (eqb m m) _ (eqb_refl m)

-- What a write at the cells that X speaks of does: it changes no other cell, nor the count, nor what lies beyond the program's own cells.
abbrev Only : Program → (ℕ → Type 0) → Cells → Cells → Type 0
Only P X σ τ =
    ((d : ℕ) → X d ⊎ (get_or τ d (pos 0) ≡ get_or σ d (pos 0)))
    × (length τ ≡ length σ)
    × (drop (length (table P)) τ ≡ drop (length (table P)) σ)

only_none : (P : Program) (X : ℕ → Type 0) (σ : Cells) → Only P X σ σ
only_none P X σ = (λ d. inr refl, refl, refl)

only_then : (P : Program) (X : ℕ → Type 0) (σ τ ρ : Cells) → Only P X σ τ → Only P X τ ρ → Only P X σ ρ
only_then P X σ τ ρ h g = (
  λ d. elim (g.0 d) [ inl x ↦ inl x | inr e ↦ elim (h.0 d) [ inl x ↦ inl x | inr q ↦ inr (e ∙ q) ] ],
  g.1 ∙ h.1,
  g.2 ∙ h.2,
)

only_set : (P : Program) (X : ℕ → Type 0) (σ : Cells) (c : ℕ) (v : ℤ) → X c → (x : Cell) → CellAt P c x → Only P X σ (set σ c v)
only_set P X σ c v w x e = (
  λ d. elim (set_is σ c v d) [ inl q ↦ inl (subst X (sym q.0) w) | inr q ↦ inr q ],
  length-set σ c v,
  drop-set-lt (length (table P)) σ c v (elem_below (table P) c x e),
)

module _ (P : Program) (dealt : Dealt 0 P.variables) where
  owned_mine : (m c : ℕ) (x : Variable) (t : Simple) → x.inside ≡ m → CellAt P c (cell x.inside x.fixed t) → Mine P m c
  owned_mine m c x t e h = (cell x.inside x.fixed t, h, subst (λ n. T (part_of P m n)) (sym e) (part_of_itself P m))

  cleared_only : (m : ℕ) (x : Variable) → Owned P m x → (k n : ℕ) → k + n ≤ size x.shape → (c : ℕ) → c ≡ x.cell + k → (σ : Cells)
      → Only P (Mine P m) σ (cleared c n σ)
  cleared_only m x w k zero l c e σ = only_none P (Mine P m) σ
  cleared_only m x w k (suc n) l c e σ =
      let f = dealt_cells P dealt x w.0 k (omega arith) in
      let h = subst (λ c. CellAt P c (cell x.inside x.fixed f.0)) (sym e) f.1 in
      only_then P (Mine P m) σ (cleared (suc c) n σ) _ (cleared_only m x w (suc k) n (omega arith) (suc c) (omega arith) σ)
      (only_set P (Mine P m) (cleared (suc c) n σ) c (pos 0) (owned_mine m c x f.0 w.1 h) _ h)

  zeroed_only : (m : ℕ) (xs : List Variable) → AllOwned P m xs → (σ : Cells) → Only P (Mine P m) σ (zeroed xs σ)
  zeroed_only m [] w σ = only_none P (Mine P m) σ
  zeroed_only m (x ∷ xs) w σ =
      only_then P (Mine P m) σ (zeroed xs σ) _ (zeroed_only m xs w.1 σ)
      (cleared_only m x w.0 0 (size x.shape) (omega arith) x.cell (omega arith) (zeroed xs σ))

  placed_only : (m : ℕ) (fs : List Formal) (is : List Item) → FormalsOwned P m fs → (σ : Cells) → Only P (Mine P m) σ (placed fs is σ)
  placed_only m [] is w σ = only_none P (Mine P m) σ
  placed_only m (by_const x t ∷ fs) [] w σ = only_none P (Mine P m) σ
  placed_only m (by_const x t ∷ fs) (val v ∷ is) w σ =
      let i = simple_is P dealt m x t w.0 in
      only_then P (Mine P m) σ (placed fs is σ) _ (placed_only m fs is w.1 σ)
      (only_set P (Mine P m) (placed fs is σ) x.cell v (formal_mine m x t w.0) _ i.2)
    where
      formal_mine : (m : ℕ) (x : Variable) (t : Simple) → OwnedSimple P m x t → Mine P m x.cell
      formal_mine m x t h =
          let s : 0 < size x.shape = subst (λ s. 0 < size s) (sym h.2) (omega arith) in
          let f = dealt_cells P dealt x h.0 0 s in
          owned_mine m x.cell x f.0 h.1 (subst (λ c. CellAt P c (cell x.inside x.fixed f.0)) (let e : x.cell + 0 ≡ x.cell = omega arith in e) f.1)
  placed_only m (by_const x t ∷ fs) (ref b y ∷ is) w σ = placed_only m fs is w.1 σ
  placed_only m (by_var s ∷ fs) [] w σ = only_none P (Mine P m) σ
  placed_only m (by_var s ∷ fs) (i ∷ is) w σ = placed_only m fs is w σ

  -- who may change the cell c by this action, in the module m
  abbrev May : List Open → ℕ → Action → ℕ → Type 0
  May o m a c = Mine P m c ⊎ (ByFormal a × Lent P c o)

  only_weaker : (X Y : ℕ → Type 0) (σ τ : Cells) → ((c : ℕ) → X c → Y c) → Only P X σ τ → Only P Y σ τ
  only_weaker X Y σ τ f h = (λ d. elim (h.0 d) [ inl x ↦ inl (f d x) | inr e ↦ inr e ], h.1, h.2)

  by_name : (o : List Open) (m : ℕ) (w : Way) (c : ℕ) (v : ℤ) → Named P o (some m) w c → May o m (a_store w c v) c
  by_name o m direct c v n = inl (n.0, n.1, n.2)
  by_name o m onward c v n = inr (store_onward, n)

  written_only : (o : List Open) (m d : ℕ) (a : Action) → law P o m d a → (σ : Cells) → Only P (May o m a) σ (written a σ)
  written_only o m d (a_constant v) l σ = only_none P _ σ
  written_only o m d (a_take c t) l σ = only_none P _ σ
  written_only o m d (a_read a t) l σ = only_none P _ σ
  written_only o m d (an_index base w low high s v) l σ = only_none P _ σ
  written_only o m d (a_sign g v) l σ = only_none P _ σ
  written_only o m d (an_operator p x y) l σ = only_none P _ σ
  written_only o m d (a_decision j v) l σ = only_none P _ σ
  written_only o m d (a_test v) l σ = only_none P _ σ
  written_only o m d a_turn l σ = only_none P _ σ
  written_only o m d (a_store w c v) l σ = only_set P (May o m (a_store w c v)) σ c v (by_name o m w c v l.3) _ l.1.2
  written_only o m d (a_write a v) l σ = only_none P _ σ
  written_only o m d (an_entry n fs zs is) l σ =
      only_weaker (Mine P m) _ σ _ (λ c h. inl h)
      (only_then P (Mine P m) σ (zeroed zs σ) _ (zeroed_only m zs l.2 σ) (placed_only m fs is l.1 (zeroed zs σ)))
  written_only o m d a_leave l σ = only_none P _ σ
  written_only o m d (a_leave_with r t) l σ = only_none P _ σ

  left_only : (o : List Open) (m d : ℕ) (a : Action) → law P o m d a → (r : Result ℤ Trap) (σ : Cells) → Only P (May o m a) σ (left a r σ)
  left_only o m d a l (Ok v) σ = written_only o m d a l σ
  left_only o m d a l (Err t) σ = only_none P _ σ

  -- what was lent is no const formal's
  lent_changes : (c : ℕ) (X : Type 0) (stands : ℕ) (is : List Item) (fs : List Formal) → ((h : X) → (x : Cell) × CellAt P c x × T (not x.fixed))
      → LentBy P c X stands is fs → (x : Cell) × CellAt P c x × T (not x.fixed)
  lent_changes c X m [] fs f h = absurd h
  lent_changes c X m (val v ∷ is) [] f h = absurd h
  lent_changes c X m (val v ∷ is) (g ∷ fs) f h = lent_changes c X m is fs f h
  lent_changes c X m (ref b w ∷ is) [] f h = absurd h
  lent_changes c X m (ref b w ∷ is) (by_const x t ∷ fs) f h = lent_changes c X m is fs f h
  lent_changes c X m (ref b direct ∷ is) (by_var s ∷ fs) f (inl h) = (h.1.0, h.1.1, h.1.3)
  lent_changes c X m (ref b direct ∷ is) (by_var s ∷ fs) f (inr h) = lent_changes c X m is fs f h
  lent_changes c X m (ref b onward ∷ is) (by_var s ∷ fs) f (inl h) = f h.1
  lent_changes c X m (ref b onward ∷ is) (by_var s ∷ fs) f (inr h) = lent_changes c X m is fs f h

  lent_free : (c : ℕ) (o : List Open) → Lent P c o → (x : Cell) × CellAt P c x × T (not x.fixed)
  lent_free c [] h = absurd h
  lent_free c (l ∷ o) h = lent_changes c (Lent P c o) l.stands l.items l.for (lent_free c o) h

  named_free : (o : List Open) (m : ℕ) (w : Way) (c : ℕ) → Named P o (some m) w c → (x : Cell) × CellAt P c x × T (not x.fixed)
  named_free o m direct c n = (n.0, n.1, n.3)
  named_free o m onward c n = lent_free c o n

  -- one cell is not both
  not_both : (c : ℕ) (x y : Cell) → CellAt P c x → CellAt P c y → T x.fixed → T (not y.fixed) → ⊥
  not_both c x y e q h n = T_not y.fixed n (subst (λ x. T x.fixed) (some_inj (sym e ∙ q)) h)

  -- a write changes the named cell only
  store_keeps : (σ : Cells) (c : ℕ) (v : ℤ) (d : ℕ) → ¬ (get_or (set σ c v) d (pos 0) ≡ get_or σ d (pos 0)) → d ≡ c
  store_keeps σ c v d n = elim (set_is σ c v d) [ inl q ↦ q.0 | inr q ↦ absurd (n q) ]

  written_const : (o : List Open) (m d : ℕ) (a : Action) → law P o m d a → (σ : Cells) (c : ℕ) (x : Cell) → CellAt P c x → T x.fixed
      → ¬ (get_or (written a σ) c (pos 0) ≡ get_or σ c (pos 0)) → Entered a
  written_const o m d (a_constant v) l σ c x e h n = absurd (n refl)
  written_const o m d (a_take b t) l σ c x e h n = absurd (n refl)
  written_const o m d (a_read a t) l σ c x e h n = absurd (n refl)
  written_const o m d (an_index base w low high s v) l σ c x e h n = absurd (n refl)
  written_const o m d (a_sign g v) l σ c x e h n = absurd (n refl)
  written_const o m d (an_operator p y z) l σ c x e h n = absurd (n refl)
  written_const o m d (a_decision j v) l σ c x e h n = absurd (n refl)
  written_const o m d (a_test v) l σ c x e h n = absurd (n refl)
  written_const o m d a_turn l σ c x e h n = absurd (n refl)
  written_const o m d (a_store w b v) l σ c x e h n =
      let f = named_free o m w b l.3 in
      absurd (not_both c x f.0 e (subst (λ b. CellAt P b f.0) (sym (store_keeps σ b v c n)) f.1) h f.2)
  written_const o m d (a_write a v) l σ c x e h n = absurd (n refl)
  written_const o m d (an_entry k fs zs is) l σ c x e h n = by_entry
  written_const o m d a_leave l σ c x e h n = absurd (n refl)
  written_const o m d (a_leave_with r t) l σ c x e h n = absurd (n refl)

  left_const : (o : List Open) (m d : ℕ) (a : Action) → law P o m d a → (r : Result ℤ Trap) (σ : Cells) (c : ℕ) (x : Cell) → CellAt P c x → T x.fixed
      → ¬ (get_or (left a r σ) c (pos 0) ≡ get_or σ c (pos 0)) → Entered a
  left_const o m d a l (Ok v) σ c x e h n = written_const o m d a l σ c x e h n
  left_const o m d a l (Err t) σ c x e h n = absurd (n refl)

  minds : (o : List Open) (at : At) (d : ℕ) (a : Action) → law P o at.inside d a → (r : Result ℤ Trap) (σ : Cells) → Minds P o at a r σ
  minds o at d a l r σ =
      let w = left_only o at.inside d a l r σ in
      record {
        changes = λ c n. elim (w.0 c) [ inl x ↦ x | inr e ↦ absurd (n e) ];
        const_kept = left_const o at.inside d a l r σ;
        count = w.1;
        beyond = w.2;
        opens = λ base u low high s v e. (subst (law P o at.inside d) e l).0;
      }

  hides : (o : List Open) (l : List Line) → Lawful P o l → Hides P o l
  hides o [] g = tt
  hides o (did at d a σ r ∷ l) g = (minds o at d a g.1 r σ, hides (opened o a) l g.2)
  hides o (was_given a t v ∷ l) g = hides o l g

pub modules_hide_lem : ModulesHide
modules_hide_lem P w es = hides P w.1 [] (meaning P es).log (lawful P w es)
