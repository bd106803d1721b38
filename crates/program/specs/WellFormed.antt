-- What the checker guarantees of a program.
use Prim.{⊥}
use Rattle.std.specs.Prelude.{ℕ, suc, Bool, true, ◌&&◌, ◌||◌, not, ◌≡◌, ◌⊎◌, length, T, leb, eqb}
use mathlib.Core.List.{List, [], ◌∷◌, reverse_aux}
use Rattle.std.proofs.Math.Option.{Option, none, some}
use Rattle.std.proofs.Math.ListN.{get_elem?}
use Rattle.program.specs.Types.{Simple, Writing, Shape, Field, fits, sane}
use Rattle.program.specs.Types.Simple.{integer, boolean}
use Rattle.program.specs.Types.Shape.{simple, array, record_of}
use Rattle.program.specs.Trees.{At, Variable, Sign, Operator, Name, Formal, Expr, Designator, Actuals, Stmt, Arms, Parts, Procedure, Function, Program}
use Rattle.program.specs.Trees.Sign.{plus_sign, minus_sign, not_sign}
use Rattle.program.specs.Trees.Operator.{plus, minus, times, over, div, modulo, xor, eq, ne, lt, le, gt, ge}
use Rattle.program.specs.Trees.Name.{own, formal}
use Rattle.program.specs.Trees.Formal.{by_const, by_var}
use Rattle.program.specs.Trees.Expr.{constant, value, register, unary, binary, junction, apply}
use Rattle.program.specs.Trees.Designator.{whole, element, part}
use Rattle.program.specs.Trees.Actuals.{no_more, a_value, a_variable}
use Rattle.program.specs.Trees.Stmt.{skip, seq, assign, offer, if, while, repeat, loop, call}
use Rattle.program.specs.Trees.Arms.{otherwise, arm}
use Rattle.program.specs.Trees.Parts.{ends, exits}
use Rattle.program.specs.Trees.Procedure.{procedure}
use Rattle.program.specs.Trees.Function.{function}
use Rattle.program.specs.Cells.{Dealt, part_of, table}

-- x is one of these
abbrev pub Among : Variable → List Variable → Type 0
Among x [] = ⊥
Among x (y ∷ ys) = (x ≡ y) ⊎ Among x ys

-- signs keep the type of their operand
abbrev pub ok_sign : Sign → Simple → Type 0
ok_sign plus_sign t = t ≡ integer
ok_sign minus_sign t = t ≡ integer
ok_sign not_sign t = t ≡ boolean

-- operands of the type u give a result of the type t
abbrev pub ok_operator : Operator → Simple → Simple → Type 0
ok_operator plus u t = (u ≡ integer) × (t ≡ integer)
ok_operator minus u t = (u ≡ integer) × (t ≡ integer)
ok_operator times u t = (u ≡ integer) × (t ≡ integer)
ok_operator over u t = (u ≡ integer) × (t ≡ integer)
ok_operator div u t = (u ≡ integer) × (t ≡ integer)
ok_operator modulo u t = (u ≡ integer) × (t ≡ integer)
ok_operator xor u t = (u ≡ boolean) × (t ≡ boolean)
ok_operator eq u t = t ≡ boolean
ok_operator ne u t = t ≡ boolean
ok_operator lt u t = t ≡ boolean
ok_operator le u t = t ≡ boolean
ok_operator gt u t = t ≡ boolean
ok_operator ge u t = t ≡ boolean

-- the formals, the last first: so they meet the actuals, of which the last is done last
abbrev pub last_first : List Formal → List Formal
last_first fs = reverse_aux fs []

-- the types of the var formals
abbrev pub var_shapes : List Formal → List Shape
var_shapes [] = []
var_shapes (by_const x t ∷ fs) = var_shapes fs
var_shapes (by_var s ∷ fs) = s ∷ var_shapes fs

-- x is declared by the module m
abbrev pub Owned : Program → ℕ → Variable → Type 0
Owned P m x = Among x P.variables × (x.inside ≡ m)

abbrev pub OwnedSimple : Program → ℕ → Variable → Simple → Type 0
OwnedSimple P m x t = Among x P.variables × (x.inside ≡ m) × (x.shape ≡ simple t)

abbrev pub AllOwned : Program → ℕ → List Variable → Type 0
AllOwned P m [] = Unit {0}
AllOwned P m (x ∷ xs) = Owned P m x × AllOwned P m xs

abbrev pub FormalsOwned : Program → ℕ → List Formal → Type 0
FormalsOwned P m [] = Unit {0}
FormalsOwned P m (by_const x t ∷ fs) = OwnedSimple P m x t × FormalsOwned P m fs × T x.fixed
FormalsOwned P m (by_var s ∷ fs) = FormalsOwned P m fs

-- Somebody who only reads may do so anywhere; whoever changes or passes on does so in the text of the module that declares, and never with a
-- const formal.
abbrev pub Allowed : Program → Option ℕ → Variable → Type 0
Allowed P none x = Unit {0}
Allowed P (some m) x = T (part_of P m x.inside) × T (not x.fixed)

abbrev pub procedure_formals : Procedure → List Formal
procedure_formals (procedure m fs vs body) = fs

abbrev pub function_formals : Function → List Formal
function_formals (function m fs r t vs body) = fs

-- `f` are the types of the var formals around
abbrev pub ok_name : Program → List Shape → Option ℕ → Name → Shape → Type 0
ok_name P f who (own x) s = Among x P.variables × (x.shape ≡ s) × Allowed P who x
ok_name P f who (formal n) s = get_elem? f n ≡ some s

-- an array or record is opened only in the text of the module where its type is written
abbrev pub OpenHere : Program → At → Writing → Type 0
OpenHere P at w = T (part_of P at.inside w.inside)

-- registers have addresses from 0 to 65535
abbrev pub Address : ℕ → Type 0
Address a = T (leb a 65535)

abbrev mutual
  -- the expression is of the type t
  pub ok_expr : Program → List Shape → Expr → Simple → Type 0
  ok_expr P f (constant at u v) t = (u ≡ t) × T (fits t v)
  ok_expr P f (value at u x) t = (u ≡ t) × ok_designator P f none x (simple t)
  ok_expr P f (register at u a) t = (u ≡ t) × Address a
  ok_expr P f (unary at g e) t = ok_sign g t × ok_expr P f e t
  ok_expr P f (binary at o u a b) t = ok_operator o u t × ok_expr P f a u × ok_expr P f b u
  ok_expr P f (junction at j a b) t = (t ≡ boolean) × ok_expr P f a boolean × ok_expr P f b boolean
  ok_expr P f (apply at p xs) t = ok_function P p t × ok_actuals P f at.inside xs (function_formals p)

  -- the variable is of the type s, and `who` may do with it what is done
  pub ok_designator : Program → List Shape → Option ℕ → Designator → Shape → Type 0
  ok_designator P f who (whole n) s = ok_name P f who n s
  ok_designator P f who (element at x w low high u e) s =
      (u ≡ s) × OpenHere P at w × ok_designator P f who x (array w low high s) × ok_expr P f e integer
  ok_designator P f who (part at x w fs o) s = OpenHere P at w × ok_designator P f who x (record_of w fs) × Field fs o s

  -- the actuals of a call that stands in m fit the formals, one by one
  pub ok_actuals : Program → List Shape → ℕ → Actuals → List Formal → Type 0
  ok_actuals P f m no_more [] = Unit {0}
  ok_actuals P f m no_more (g ∷ gs) = ⊥
  ok_actuals P f m (a_value e xs) [] = ⊥
  ok_actuals P f m (a_value e xs) (by_const x t ∷ gs) = ok_expr P f e t × ok_actuals P f m xs gs
  ok_actuals P f m (a_value e xs) (by_var s ∷ gs) = ⊥
  ok_actuals P f m (a_variable x xs) [] = ⊥
  ok_actuals P f m (a_variable x xs) (by_const y t ∷ gs) = ⊥
  ok_actuals P f m (a_variable x xs) (by_var s ∷ gs) = ok_designator P f (some m) x s × ok_actuals P f m xs gs

  pub ok_stmt : Program → List Shape → Stmt → Type 0
  ok_stmt P f skip = Unit {0}
  ok_stmt P f (seq a b) = ok_stmt P f a × ok_stmt P f b
  ok_stmt P f (assign at t x e) = ok_designator P f (some at.inside) x (simple t) × ok_expr P f e t
  ok_stmt P f (offer at t a e) = Address a × ok_expr P f e t
  ok_stmt P f (if xs) = ok_arms P f xs
  ok_stmt P f (while at q e s) = ok_expr P f e boolean × ok_stmt P f s
  ok_stmt P f (repeat at s q e) = ok_stmt P f s × ok_expr P f e boolean
  ok_stmt P f (loop at b) = ok_parts P f b
  ok_stmt P f (call at p xs) = ok_procedure P p × ok_actuals P f at.inside xs (procedure_formals p)

  pub ok_arms : Program → List Shape → Arms → Type 0
  ok_arms P f (otherwise s) = ok_stmt P f s
  ok_arms P f (arm at e s xs) = ok_expr P f e boolean × ok_stmt P f s × ok_arms P f xs

  pub ok_parts : Program → List Shape → Parts → Type 0
  ok_parts P f (ends s) = ok_stmt P f s
  ok_parts P f (exits s at e s' b) = ok_stmt P f s × ok_expr P f e boolean × ok_stmt P f s' × ok_parts P f b

  pub ok_procedure : Program → Procedure → Type 0
  ok_procedure P (procedure m fs vs body) =
      FormalsOwned P m fs × AllOwned P m vs × ok_stmt P (var_shapes (last_first fs)) body

  -- the function gives values of the type t
  pub ok_function : Program → Function → Simple → Type 0
  ok_function P (function m fs r u vs body) t =
      (u ≡ t) × FormalsOwned P m fs × OwnedSimple P m r u × AllOwned P m vs × ok_stmt P (var_shapes (last_first fs)) body

abbrev pub ok_bodies : Program → List Stmt → Type 0
ok_bodies P [] = Unit {0}
ok_bodies P (s ∷ ss) = ok_stmt P [] s × ok_bodies P ss

-- the module around the n-th one has a smaller number, or both are the outermost
abbrev pub Nested : ℕ → List ℕ → Type 0
Nested n [] = Unit {0}
Nested n (m ∷ ms) = T (leb (suc m) n || eqb n 0) × Nested (suc n) ms

abbrev pub sane_variables : List Variable → Bool
sane_variables [] = true
sane_variables (x ∷ xs) = sane x.shape && sane_variables xs

-- a program has at most 2048 cells
abbrev pub few_cells : Program → Bool
few_cells P = leb (length (table P)) 2048

-- The program's modules are nested, its cells dealt in text order without overlap, and its bodies follow the rules of types, of changes
-- and of closed arrays and records; its cells are not too many, and its array bounds in order.
abbrev pub WellFormed : Program → Type 0
WellFormed P =
    Nested 0 P.modules × Dealt 0 P.variables × ok_bodies P P.bodies × T (few_cells P) × T (sane_variables P.variables)
