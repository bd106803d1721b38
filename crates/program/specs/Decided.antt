-- Well-formedness as a Bool function: it goes through the program as the judgment does, and answers true exactly where that holds.
use Rattle.std.specs.Prelude.{ℕ, suc, ◌+◌, ◌-◌, Bool, true, false, ◌&&◌, ◌||◌, not, List, [], ◌∷◌, ℤ, pos, negsuc, leb, eqb}
use Rattle.std.proofs.Math.Option.{Option, none, some}
use Rattle.std.proofs.Math.ListN.{get_elem?}
use Rattle.program.specs.Types.{Simple, Writing, Shape, Fields, size, fits}
use Rattle.program.specs.Types.Simple.{integer, boolean, char, enumeration}
use Rattle.program.specs.Types.Shape.{simple, array, record_of}
use Rattle.program.specs.Types.Fields.{no_field, field_and}
use Rattle.program.specs.Trees.{At, Variable, Sign, Operator, Name, Formal, Expr, Designator, Actuals, Stmt, Arms, Parts, Procedure, Function, Program}
use Rattle.program.specs.Trees.Sign.{plus_sign, minus_sign, not_sign}
use Rattle.program.specs.Trees.Operator.{plus, minus, times, over, div, modulo, xor, eq, ne, lt, le, gt, ge}
use Rattle.program.specs.Trees.Name.{own, formal}
use Rattle.program.specs.Trees.Formal.{by_const, by_var}
use Rattle.program.specs.Trees.Expr.{constant, value, register, unary, binary, junction, apply}
use Rattle.program.specs.Trees.Designator.{whole, element, part}
use Rattle.program.specs.Trees.Actuals.{no_more, a_value, a_variable}
use Rattle.program.specs.Trees.Stmt.{skip, seq, assign, offer, if, while, repeat, loop, call}
use Rattle.program.specs.Trees.Arms.{otherwise, arm}
use Rattle.program.specs.Trees.Parts.{ends, exits}
use Rattle.program.specs.Trees.Procedure.{procedure}
use Rattle.program.specs.Trees.Function.{function}
use Rattle.program.specs.Cells.{part_of}
use Rattle.program.specs.WellFormed.{last_first, var_shapes, procedure_formals, function_formals, few_cells, sane_variables}

abbrev pub same_simple : Simple → Simple → Bool
same_simple integer integer = true
same_simple integer boolean = false
same_simple integer char = false
same_simple integer (enumeration w n) = false
same_simple boolean integer = false
same_simple boolean boolean = true
same_simple boolean char = false
same_simple boolean (enumeration w n) = false
same_simple char integer = false
same_simple char boolean = false
same_simple char char = true
same_simple char (enumeration w n) = false
same_simple (enumeration v m) integer = false
same_simple (enumeration v m) boolean = false
same_simple (enumeration v m) char = false
same_simple (enumeration v m) (enumeration w n) = eqb v w && eqb m n

abbrev pub same_writing : Writing → Writing → Bool
same_writing v w = eqb v.number w.number && eqb v.inside w.inside

abbrev pub same_integer : ℤ → ℤ → Bool
same_integer (pos m) (pos n) = eqb m n
same_integer (pos m) (negsuc n) = false
same_integer (negsuc m) (pos n) = false
same_integer (negsuc m) (negsuc n) = eqb m n

abbrev mutual
  pub same_shape : Shape → Shape → Bool
  same_shape (simple t) (simple u) = same_simple t u
  same_shape (simple t) (array w low high u) = false
  same_shape (simple t) (record_of w fs) = false
  same_shape (array v low high s) (simple u) = false
  same_shape (array v low high s) (array w low' high' u) =
      same_writing v w && (same_integer low low' && (same_integer high high' && same_shape s u))
  same_shape (array v low high s) (record_of w fs) = false
  same_shape (record_of v gs) (simple u) = false
  same_shape (record_of v gs) (array w low high u) = false
  same_shape (record_of v gs) (record_of w fs) = same_writing v w && same_fields gs fs

  pub same_fields : Fields → Fields → Bool
  same_fields no_field no_field = true
  same_fields no_field (field_and u fs) = false
  same_fields (field_and s gs) no_field = false
  same_fields (field_and s gs) (field_and u fs) = same_shape s u && same_fields gs fs

abbrev pub same_text : List ℕ → List ℕ → Bool
same_text [] [] = true
same_text [] (y ∷ ys) = false
same_text (x ∷ xs) [] = false
same_text (x ∷ xs) (y ∷ ys) = eqb x y && same_text xs ys

abbrev pub same_truth : Bool → Bool → Bool
same_truth true b = b
same_truth false b = not b

abbrev pub same_variable : Variable → Variable → Bool
same_variable x y =
    same_text x.name y.name && (same_shape x.shape y.shape && (eqb x.cell y.cell && (eqb x.inside y.inside && same_truth x.fixed y.fixed)))

abbrev pub among : Variable → List Variable → Bool
among x [] = false
among x (y ∷ ys) = same_variable x y || among x ys

-- the record has a field of this type at this offset
abbrev pub has_field : Fields → ℕ → Shape → Bool
has_field no_field o s = false
has_field (field_and u fs) o s = (eqb o 0 && same_shape u s) || (leb (size u) o && has_field fs (o - size u) s)

abbrev pub sign_ok : Sign → Simple → Bool
sign_ok plus_sign t = same_simple t integer
sign_ok minus_sign t = same_simple t integer
sign_ok not_sign t = same_simple t boolean

abbrev pub operator_ok : Operator → Simple → Simple → Bool
operator_ok plus u t = same_simple u integer && same_simple t integer
operator_ok minus u t = same_simple u integer && same_simple t integer
operator_ok times u t = same_simple u integer && same_simple t integer
operator_ok over u t = same_simple u integer && same_simple t integer
operator_ok div u t = same_simple u integer && same_simple t integer
operator_ok modulo u t = same_simple u integer && same_simple t integer
operator_ok xor u t = same_simple u boolean && same_simple t boolean
operator_ok eq u t = same_simple t boolean
operator_ok ne u t = same_simple t boolean
operator_ok lt u t = same_simple t boolean
operator_ok le u t = same_simple t boolean
operator_ok gt u t = same_simple t boolean
operator_ok ge u t = same_simple t boolean

abbrev pub owned : Program → ℕ → Variable → Bool
owned P m x = among x P.variables && eqb x.inside m

abbrev pub owned_simple : Program → ℕ → Variable → Simple → Bool
owned_simple P m x t = among x P.variables && (eqb x.inside m && same_shape x.shape (simple t))

abbrev pub all_owned : Program → ℕ → List Variable → Bool
all_owned P m [] = true
all_owned P m (x ∷ xs) = owned P m x && all_owned P m xs

abbrev pub formals_owned : Program → ℕ → List Formal → Bool
formals_owned P m [] = true
formals_owned P m (by_const x t ∷ fs) = owned_simple P m x t && (formals_owned P m fs && x.fixed)
formals_owned P m (by_var s ∷ fs) = formals_owned P m fs

abbrev pub allowed : Program → Option ℕ → Variable → Bool
allowed P none x = true
allowed P (some m) x = part_of P m x.inside && not x.fixed

abbrev pub is_shape : Option Shape → Shape → Bool
is_shape none s = false
is_shape (some u) s = same_shape u s

abbrev pub name_ok : Program → List Shape → Option ℕ → Name → Shape → Bool
name_ok P f who (own x) s = among x P.variables && (same_shape x.shape s && allowed P who x)
name_ok P f who (formal n) s = is_shape (get_elem? f n) s

abbrev pub open_here : Program → At → Writing → Bool
open_here P at w = part_of P at.inside w.inside

abbrev pub address : ℕ → Bool
address a = leb a 65535

abbrev mutual
  pub expr_ok : Program → List Shape → Expr → Simple → Bool
  expr_ok P f (constant at u v) t = same_simple u t && fits t v
  expr_ok P f (value at u x) t = same_simple u t && designator_ok P f none x (simple t)
  expr_ok P f (register at u a) t = same_simple u t && address a
  expr_ok P f (unary at g e) t = sign_ok g t && expr_ok P f e t
  expr_ok P f (binary at o u a b) t = operator_ok o u t && (expr_ok P f a u && expr_ok P f b u)
  expr_ok P f (junction at j a b) t = same_simple t boolean && (expr_ok P f a boolean && expr_ok P f b boolean)
  expr_ok P f (apply at p xs) t = function_ok P p t && actuals_ok P f at.inside xs (function_formals p)

  pub designator_ok : Program → List Shape → Option ℕ → Designator → Shape → Bool
  designator_ok P f who (whole n) s = name_ok P f who n s
  designator_ok P f who (element at x w low high u e) s =
      same_shape u s && (open_here P at w && (designator_ok P f who x (array w low high s) && expr_ok P f e integer))
  designator_ok P f who (part at x w fs o) s = open_here P at w && (designator_ok P f who x (record_of w fs) && has_field fs o s)

  pub actuals_ok : Program → List Shape → ℕ → Actuals → List Formal → Bool
  actuals_ok P f m no_more [] = true
  actuals_ok P f m no_more (g ∷ gs) = false
  actuals_ok P f m (a_value e xs) [] = false
  actuals_ok P f m (a_value e xs) (by_const x t ∷ gs) = expr_ok P f e t && actuals_ok P f m xs gs
  actuals_ok P f m (a_value e xs) (by_var s ∷ gs) = false
  actuals_ok P f m (a_variable x xs) [] = false
  actuals_ok P f m (a_variable x xs) (by_const y t ∷ gs) = false
  actuals_ok P f m (a_variable x xs) (by_var s ∷ gs) = designator_ok P f (some m) x s && actuals_ok P f m xs gs

  pub stmt_ok : Program → List Shape → Stmt → Bool
  stmt_ok P f skip = true
  stmt_ok P f (seq a b) = stmt_ok P f a && stmt_ok P f b
  stmt_ok P f (assign at t x e) = designator_ok P f (some at.inside) x (simple t) && expr_ok P f e t
  stmt_ok P f (offer at t a e) = address a && expr_ok P f e t
  stmt_ok P f (if xs) = arms_ok P f xs
  stmt_ok P f (while at q e s) = expr_ok P f e boolean && stmt_ok P f s
  stmt_ok P f (repeat at s q e) = stmt_ok P f s && expr_ok P f e boolean
  stmt_ok P f (loop at b) = parts_ok P f b
  stmt_ok P f (call at p xs) = procedure_ok P p && actuals_ok P f at.inside xs (procedure_formals p)

  pub arms_ok : Program → List Shape → Arms → Bool
  arms_ok P f (otherwise s) = stmt_ok P f s
  arms_ok P f (arm at e s xs) = expr_ok P f e boolean && (stmt_ok P f s && arms_ok P f xs)

  pub parts_ok : Program → List Shape → Parts → Bool
  parts_ok P f (ends s) = stmt_ok P f s
  parts_ok P f (exits s at e s' b) = stmt_ok P f s && (expr_ok P f e boolean && (stmt_ok P f s' && parts_ok P f b))

  pub procedure_ok : Program → Procedure → Bool
  procedure_ok P (procedure m fs vs body) = formals_owned P m fs && (all_owned P m vs && stmt_ok P (var_shapes (last_first fs)) body)

  pub function_ok : Program → Function → Simple → Bool
  function_ok P (function m fs r u vs body) t =
      same_simple u t && (formals_owned P m fs && (owned_simple P m r u && (all_owned P m vs && stmt_ok P (var_shapes (last_first fs)) body)))

abbrev pub bodies_ok : Program → List Stmt → Bool
bodies_ok P [] = true
bodies_ok P (s ∷ ss) = stmt_ok P [] s && bodies_ok P ss

abbrev pub nested : ℕ → List ℕ → Bool
nested n [] = true
nested n (m ∷ ms) = (leb (suc m) n || eqb n 0) && nested (suc n) ms

abbrev pub dealt : ℕ → List Variable → Bool
dealt b [] = true
dealt b (x ∷ xs) = eqb x.cell b && dealt (b + size x.shape) xs

unfoldable pub well_formed : Program → Bool
well_formed P =
    nested 0 P.modules && (dealt 0 P.variables && (bodies_ok P P.bodies && (few_cells P && sane_variables P.variables)))
