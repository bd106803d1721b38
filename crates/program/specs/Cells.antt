-- The cells of a program: they are dealt in text order and rising index, one to each simple part.
use Prim.{⊥}
use Rattle.std.specs.Prelude.{ℕ, zero, suc, ◌+◌, ◌≡◌, ◌⊎◌, Bool, ◌||◌, not, List, [], ◌∷◌, ◌++◌, length, get_or, ℤ, nat_abs, ◌-ℤ◌, T, eqb}
use Rattle.std.proofs.Math.Option.{some}
use Rattle.std.proofs.Math.ListN.{get_elem?}
use Rattle.program.specs.Types.{Simple, Shape, Fields, size, within, element_cell}
use Rattle.program.specs.Types.Shape.{simple, array, record_of}
use Rattle.program.specs.Types.Fields.{no_field, field_and}
use Rattle.program.specs.Trees.{Variable, Program}

-- what is said of a cell: its type, the module that declares it, and whether it is a const formal's
pub record Cell : Type 0 where
  pub type : Simple
  pub owner : ℕ
  pub fixed : Bool

abbrev pub cell : ℕ → Bool → Simple → Cell
cell m b t = record { type = t; owner = m; fixed = b }

-- one list n times over
abbrev pub copies : {A : Type 0} → ℕ → List A → List A
copies zero l = []
copies (suc n) l = l ++ copies n l

-- for each simple part, in order, what `a` says of its type
abbrev mutual
  pub flat : {A : Type 0} → (Simple → A) → Shape → List A
  flat a (simple t) = a t ∷ []
  flat a (array w low high s) = copies (suc (nat_abs (high -ℤ low))) (flat a s)
  flat a (record_of w fs) = flats a fs

  pub flats : {A : Type 0} → (Simple → A) → Fields → List A
  flats a no_field = []
  flats a (field_and s fs) = flat a s ++ flats a fs

abbrev pub cells_of : List Variable → List Cell
cells_of [] = []
cells_of (x ∷ xs) = flat (cell x.inside x.fixed) x.shape ++ cells_of xs

-- the program's own cells, which are the first ones of its store
abbrev pub table : Program → List Cell
table P = cells_of P.variables

-- the table says this of the cell c
abbrev pub CellAt : Program → ℕ → Cell → Type 0
CellAt P c x = get_elem? (table P) c ≡ some x

-- the variables have their cells one after the other, without gap or overlap
abbrev pub Dealt : ℕ → List Variable → Type 0
Dealt b [] = Unit {0}
Dealt b (x ∷ xs) = (x.cell ≡ b) × Dealt (b + size x.shape) xs

-- the text of the module m is part of that of the module n: m is n, or the module around m is so; looked for at most k times outward
abbrev pub inside_of : ℕ → List ℕ → ℕ → ℕ → Bool
inside_of zero ms m n = eqb m n
inside_of (suc k) ms m n = eqb m n || inside_of k ms (get_or ms m 0) n

abbrev pub part_of : Program → ℕ → ℕ → Bool
part_of P m n = inside_of (length P.modules) P.modules m n

-- the module m stands in the text of the module that declares the cell c
abbrev pub Mine : Program → ℕ → ℕ → Type 0
Mine P m c = (x : Cell) × CellAt P c x × T (part_of P m x.owner)

-- and may change it there: it is no const formal's
abbrev pub Changeable : Program → ℕ → ℕ → Type 0
Changeable P m c = (x : Cell) × CellAt P c x × T (part_of P m x.owner) × T (not x.fixed)

-- X holds of every simple part of a variable of this type, by the part's cell and type
abbrev mutual
  pub Each : (ℕ → Simple → Type 0) → ℕ → Shape → Type 0
  Each X c (simple t) = X c t
  Each X c (array w low high s) = (v : ℤ) → T (within low high v) → Each X (element_cell c low s v) s
  Each X c (record_of w fs) = EachOf X c fs

  pub EachOf : (ℕ → Simple → Type 0) → ℕ → Fields → Type 0
  EachOf X c no_field = Unit {0}
  EachOf X c (field_and s fs) = Each X c s × EachOf X (c + size s) fs

-- the cell c is a part of the variable at b
abbrev mutual
  pub Part : ℕ → ℕ → Shape → Type 0
  Part c b (simple t) = c ≡ b
  Part c b (array w low high s) = (v : ℤ) × T (within low high v) × Part c (element_cell b low s v) s
  Part c b (record_of w fs) = PartOf c b fs

  pub PartOf : ℕ → ℕ → Fields → Type 0
  PartOf c b no_field = ⊥
  PartOf c b (field_and s fs) = Part c b s ⊎ PartOf c (b + size s) fs
