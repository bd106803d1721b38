-- Cells dealt in text order and rising index: what the table of cells says of a variable's parts.
use Prim.{Unit, tt, ⊥, absurd}
use Prim.Native.Nat.{ℕ, zero, suc, ◌+◌, ◌*◌, ◌<◌}
use native.Mathlib.Omega.{arith}
use native.Mathlib.Nat.{add-zero}
use borrow.Author.Differences.{ints}
use mathlib.Core.Path.{◌≡◌, refl, sym, ap, ◌∙◌, subst}
use mathlib.Core.Logic.{inl, inr}
use mathlib.Core.List.{List, [], ◌∷◌, ◌++◌}
use mathlib.Core.Option.{Option, none, some}
use mathlib.Core.Bool.{Bool, true, false, ◌&&◌}
use lib.ListN.{length, length-append, get_elem?}
use lib.IntN.{ℤ, nat_abs, ◌-ℤ◌}
use lib.Signed.{le_z, ◌≤ℤ◌, le_z_yes}
use lib.Dec.{T}
use Rattle.program.specs.Types.{Simple, Shape, Fields, size, sizes, within, element_cell}
use Rattle.program.specs.Types.Shape.{simple, array, record_of}
use Rattle.program.specs.Types.Fields.{no_field, field_and}
use Rattle.program.specs.Trees.{Variable, Program}
use Rattle.program.specs.Cells.{Cell, cell, copies, flat, flats, cells_of, CellAt, table, Dealt, Each, EachOf}
use Rattle.program.specs.WellFormed.{Among}

pub none_some : {A : Type 0} {x : A} → none ≡ some x → ⊥
none_some {A} e = let P : Option A → Type 0 = λ o. elim o [ none ↦ Unit {0} | some y ↦ ⊥ ] in subst P e tt

pub some_inj : {A : Type 0} {x y : A} → some x ≡ some y → x ≡ y
some_inj {A} {x} e = ap (λ o. elim o [ none ↦ x | some z ↦ z ]) e

module _ {A : Type 0} where
  elem_left : (l m : List A) (i : ℕ) (x : A) → get_elem? l i ≡ some x → get_elem? (l ++ m) i ≡ some x
  elem_left [] m i x e = absurd (none_some e)
  elem_left (y ∷ l) m zero x e = e
  elem_left (y ∷ l) m (suc i) x e = elem_left l m i x e

  elem_right : (l m : List A) (i : ℕ) → get_elem? (l ++ m) (length l + i) ≡ get_elem? m i
  elem_right [] m i = ap (get_elem? m) (let e : zero + i ≡ i = omega arith in e)
  elem_right (y ∷ l) m i = ap (get_elem? (y ∷ (l ++ m))) (let e : suc (length l) + i ≡ suc (length l + i) = omega arith in e) ∙ elem_right l m i

  -- a place that has an element is within the list
  pub elem_below : (l : List A) (i : ℕ) (x : A) → get_elem? l i ≡ some x → i < length l
  elem_below [] i x e = absurd (none_some e)
  elem_below (y ∷ l) zero x e = omega arith
  elem_below (y ∷ l) (suc i) x e = let h = elem_below l i x e in omega arith

  copies_length : (n : ℕ) (l : List A) → length (copies n l) ≡ n * length l
  copies_length zero l = omega arith
  copies_length (suc n) l = simp length-append (omega (arith, copies_length n l))

  -- the table has l from b on
  abbrev pub Has : List A → ℕ → List A → Type 0
  Has table b l = (i : ℕ) (x : A) → get_elem? l i ≡ some x → get_elem? table (b + i) ≡ some x

  has_left : (table : List A) (b : ℕ) (l m : List A) → Has table b (l ++ m) → Has table b l
  has_left table b l m h i x e = h i x (elem_left l m i x e)

  has_right : (table : List A) (b : ℕ) (l m : List A) → Has table b (l ++ m) → Has table (b + length l) m
  has_right table b l m h i x e =
      ap (get_elem? table) (let p : (b + length l) + i ≡ b + (length l + i) = omega arith in p) ∙ h (length l + i) x (elem_right l m i ∙ e)

  has_copy : (table : List A) (b : ℕ) (n : ℕ) (l : List A) → Has table b (copies n l) → (k : ℕ) → k < n → Has table (b + k * length l) l
  has_copy table b zero l h k p = absurd (omega arith)
  has_copy table b (suc n) l h zero p =
      let e : b ≡ b + zero * length l = omega arith in subst (λ b. Has table b l) e (has_left table b l (copies n l) h)
  has_copy table b (suc n) l h (suc k) p =
      let e : (b + length l) + k * length l ≡ b + suc k * length l = omega arith in
      subst (λ b. Has table b l) e (has_copy table (b + length l) n l (has_right table b l (copies n l) h) k (omega arith))

module _ {A : Type 0} (a : Simple → A) where
  mutual
    pub flat_length : (s : Shape) → length (flat a s) ≡ size s
    flat_length (simple t) = refl
    flat_length (array w low high s) = copies_length (suc (nat_abs (high -ℤ low))) (flat a s) ∙ ap (λ k. suc (nat_abs (high -ℤ low)) * k) (flat_length s)
    flat_length (record_of w fs) = flats_length fs

    flats_length : (fs : Fields) → length (flats a fs) ≡ sizes fs
    flats_length no_field = refl
    flats_length (field_and s fs) = simp length-append (omega (arith, flat_length s, flats_length fs))

  and_both : (p q : Bool) → T (p && q) → T p × T q
  and_both true true h = (tt, tt)
  and_both true false h = absurd h
  and_both false q h = absurd h

  in_bounds : (low high v : ℤ) → T (within low high v) → nat_abs (v -ℤ low) < suc (nat_abs (high -ℤ low))
  in_bounds low high v h =
      let w = and_both (le_z low v) (le_z v high) h in
      let p : low ≤ℤ v = le_z_yes w.0 in let q : v ≤ℤ high = le_z_yes w.1 in omega (arith, ints)

  mutual
    pub each_dealt : (table : List A) (b : ℕ) (s : Shape) → Has table b (flat a s) → Each (λ c t. get_elem? table c ≡ some (a t)) b s
    each_dealt table b (simple t) h = ap (get_elem? table) (sym (add-zero b)) ∙ h 0 (a t) refl
    each_dealt table b (array u low high s) h = λ v w.
        let k = nat_abs (v -ℤ low) in
        let e : b + k * length (flat a s) ≡ element_cell b low s v = ap (λ n. b + k * n) (flat_length s) in
        each_dealt table (element_cell b low s v) s
        (subst (λ c. Has table c (flat a s)) e (has_copy table b (suc (nat_abs (high -ℤ low))) (flat a s) h k (in_bounds low high v w)))
    each_dealt table b (record_of w fs) h = each_of_dealt table b fs h

    each_of_dealt : (table : List A) (b : ℕ) (fs : Fields) → Has table b (flats a fs) → EachOf (λ c t. get_elem? table c ≡ some (a t)) b fs
    each_of_dealt table b no_field h = tt
    each_of_dealt table b (field_and s fs) h = (
      each_dealt table b s (has_left table b (flat a s) (flats a fs) h),
      each_of_dealt table (b + size s) fs (subst (λ n. Has table (b + n) (flats a fs)) (flat_length s) (has_right table b (flat a s) (flats a fs) h)),
    )

-- a variable of the program has its cells in the table
variable_has : (all : List Cell) (b : ℕ) (xs : List Variable) → Dealt b xs → Has all b (cells_of xs)
    → (x : Variable) → Among x xs → Has all x.cell (flat (cell x.inside x.fixed) x.shape)
variable_has all b [] d h x m = absurd m
variable_has all b (y ∷ ys) d h x (inl e) =
    subst (λ x. Has all x.cell (flat (cell x.inside x.fixed) x.shape)) (sym e)
    (subst (λ c. Has all c (flat (cell y.inside y.fixed) y.shape)) (sym d.0)
    (has_left all b (flat (cell y.inside y.fixed) y.shape) (cells_of ys) h))
variable_has all b (y ∷ ys) d h x (inr m) =
    variable_has all (b + size y.shape) ys d.1
    (subst (λ n. Has all (b + n) (cells_of ys)) (flat_length (cell y.inside y.fixed) y.shape)
    (has_right all b (flat (cell y.inside y.fixed) y.shape) (cells_of ys) h))
    x m

pub dealt_has : (P : Program) → Dealt 0 P.variables → (x : Variable) → Among x P.variables
    → Has (table P) x.cell (flat (cell x.inside x.fixed) x.shape)
dealt_has P d x m =
    variable_has (table P) 0 P.variables d (λ i y e. ap (get_elem? (table P)) (let p : 0 + i ≡ i = omega arith in p) ∙ e) x m

-- each part of a variable is a cell of its type, and of its module
pub dealt_each : (P : Program) → Dealt 0 P.variables → (x : Variable) → Among x P.variables
    → Each (λ c t. CellAt P c (cell x.inside x.fixed t)) x.cell x.shape
dealt_each P d x m = each_dealt (cell x.inside x.fixed) (table P) x.cell x.shape (dealt_has P d x m)

-- all elements of a flattened type are what `a` says of some simple type
module _ {A : Type 0} (a : Simple → A) where
  abbrev From : A → Type 0
  From x = (t : Simple) × (x ≡ a t)

  append_from : (l m : List A) → ((i : ℕ) → i < length l → (x : A) × (get_elem? l i ≡ some x) × From x) → ((i : ℕ) → i < length m → (x : A) × (get_elem? m i ≡ some x) × From x)
      → (i : ℕ) → i < length (l ++ m) → (x : A) × (get_elem? (l ++ m) i ≡ some x) × From x
  append_from [] m h g i p = g i p
  append_from (y ∷ l) m h g zero p = h zero (omega arith)
  append_from (y ∷ l) m h g (suc i) p = append_from l m (λ j q. h (suc j) (omega arith)) g i (omega arith)

  copies_from : (n : ℕ) (l : List A) → ((i : ℕ) → i < length l → (x : A) × (get_elem? l i ≡ some x) × From x)
      → (i : ℕ) → i < length (copies n l) → (x : A) × (get_elem? (copies n l) i ≡ some x) × From x
  copies_from zero l h i p = absurd (omega arith)
  copies_from (suc n) l h i p = append_from l (copies n l) h (copies_from n l h) i p

  mutual
    pub flat_from : (s : Shape) (i : ℕ) → i < length (flat a s) → (x : A) × (get_elem? (flat a s) i ≡ some x) × From x
    flat_from (simple t) zero p = (a t, refl, (t, refl))
    flat_from (simple t) (suc i) p = absurd (omega arith)
    flat_from (array w low high s) i p = copies_from (suc (nat_abs (high -ℤ low))) (flat a s) (flat_from s) i p
    flat_from (record_of w fs) i p = flats_from fs i p

    flats_from : (fs : Fields) (i : ℕ) → i < length (flats a fs) → (x : A) × (get_elem? (flats a fs) i ≡ some x) × From x
    flats_from no_field i p = absurd (omega arith)
    flats_from (field_and s fs) i p = append_from (flat a s) (flats a fs) (flat_from s) (flats_from fs) i p

-- each of the cells of a variable is one of its module
pub dealt_cells : (P : Program) → Dealt 0 P.variables → (x : Variable) → Among x P.variables
    → (i : ℕ) → i < size x.shape → (t : Simple) × CellAt P (x.cell + i) (cell x.inside x.fixed t)
dealt_cells P d x m i p =
    let q : i < length (flat (cell x.inside x.fixed) x.shape) = omega (arith, flat_length (cell x.inside x.fixed) x.shape) in
    let f = flat_from (cell x.inside x.fixed) x.shape i q in
    (f.2.0, dealt_has P d x m i (cell x.inside x.fixed f.2.0) (f.1 ∙ ap some f.2.1))
