-- Each test of the Bool function decides its part of the judgment.
use Prim.{Unit, tt, ⊥, absurd}
use Prim.Native.Nat.{ℕ, suc, ◌+◌, ◌-◌, ◌≤◌}
use native.Mathlib.Omega.{arith}
use mathlib.Core.Path.{◌≡◌, refl, sym, ap, subst}
use mathlib.Core.Logic.{◌⊎◌, inl, inr}
use mathlib.Core.Bool.{Bool, true, false, ◌&&◌, ◌||◌, not}
use mathlib.Core.List.{List, [], ◌∷◌}
use mathlib.Core.Option.{Option, none, some}
use lib.ListN.{get_elem?}
use lib.IntN.{ℤ, pos, negsuc}
use lib.Dec.{T, eqb, leb, eqb→eq, eqb_refl, leb→le, le→leb}
use Rattle.program.specs.Types.{Simple, Writing, Shape, Fields, Field, size, fits}
use Rattle.program.specs.Types.Simple.{integer, boolean, char, enumeration}
use Rattle.program.specs.Types.Shape.{simple, array, record_of}
use Rattle.program.specs.Types.Fields.{no_field, field_and}
use Rattle.program.specs.Trees.{Variable, Sign, Operator, Name, Formal, Expr, Designator, Actuals, Stmt, Arms, Parts, Procedure, Function, Program}
use Rattle.program.specs.Trees.Sign.{plus_sign, minus_sign, not_sign}
use Rattle.program.specs.Trees.Operator.{plus, minus, times, over, div, modulo, xor, eq, ne, lt, le, gt, ge}
use Rattle.program.specs.Trees.Name.{own, formal}
use Rattle.program.specs.Trees.Formal.{by_const, by_var}
use Rattle.program.specs.Trees.Expr.{constant, value, register, unary, binary, junction, apply}
use Rattle.program.specs.Trees.Designator.{whole, element, part}
use Rattle.program.specs.Trees.Actuals.{no_more, a_value, a_variable}
use Rattle.program.specs.Trees.Stmt.{skip, seq, assign, offer, if, while, repeat, loop, call}
use Rattle.program.specs.Trees.Arms.{otherwise, arm}
use Rattle.program.specs.Trees.Parts.{ends, exits}
use Rattle.program.specs.Trees.Procedure.{procedure}
use Rattle.program.specs.Trees.Function.{function}
use Rattle.program.specs.Cells.{part_of, Dealt}
use Rattle.program.specs.WellFormed.{Among, ok_sign, ok_operator, last_first, var_shapes, Owned, OwnedSimple, AllOwned, FormalsOwned, Allowed, ok_name, procedure_formals, function_formals, ok_expr, ok_designator, ok_actuals, ok_stmt, ok_arms, ok_parts, ok_procedure, ok_function, ok_bodies, Nested, few_cells, sane_variables}
use Rattle.program.specs.Decided.{same_simple, same_writing, same_integer, same_shape, same_fields, same_text, same_truth, same_variable, among, has_field, sign_ok, operator_ok, owned, owned_simple, all_owned, formals_owned, allowed, is_shape, name_ok, open_here, address, expr_ok, designator_ok, actuals_ok, stmt_ok, arms_ok, parts_ok, procedure_ok, function_ok, bodies_ok, nested, dealt, well_formed}
use Rattle.program.specs.Theorems.{Decided}
use Rattle.program.proofs.Dealing.{none_some, some_inj}

-- the test b decides X
abbrev pub Decides : Bool → Type 0 → Type 0
Decides b X = (T b → X) × (X → T b)

-- a test is its own fact
itself : (b : Bool) → Decides b (T b)
itself b = (λ t. t, λ t. t)

always : Decides true (Unit {0})
always = (λ t. tt, λ t. tt)

never : Decides false ⊥
never = (λ t. t, λ t. t)

and_both : (p q : Bool) → T (p && q) → T p × T q
and_both true q h = (tt, h)
and_both false q h = absurd h

both_and : (p q : Bool) → T p → T q → T (p && q)
both_and true q h g = g
both_and false q h g = absurd h

or_either : (p q : Bool) → T (p || q) → T p ⊎ T q
or_either true q h = inl tt
or_either false q h = inr h

either_or : (p q : Bool) → T p ⊎ T q → T (p || q)
either_or true q h = tt
either_or false q (inl h) = absurd h
either_or false q (inr h) = h

two : (p q : Bool) {X Y : Type 0} → Decides p X → Decides q Y → Decides (p && q) (X × Y)
two p q f g = (
  λ t. let w = and_both p q t in (f.0 w.0, g.0 w.1),
  λ x. both_and p q (f.1 x.0) (g.1 x.1),
)

three : (p q r : Bool) {X Y Z : Type 0} → Decides p X → Decides q Y → Decides r Z → Decides (p && (q && r)) (X × Y × Z)
three p q r f g h = (
  λ t. let w = and_both p (q && r) t in let v = and_both q r w.1 in (f.0 w.0, g.0 v.0, h.0 v.1),
  λ x. both_and p (q && r) (f.1 x.0) (both_and q r (g.1 x.1) (h.1 x.2)),
)

four : (p q r s : Bool) {X Y Z W : Type 0} → Decides p X → Decides q Y → Decides r Z → Decides s W
    → Decides (p && (q && (r && s))) (X × Y × Z × W)
four p q r s f g h k = (
  λ t. let w = and_both p (q && (r && s)) t in let v = (three q r s g h k).0 w.1 in (f.0 w.0, v.0, v.1, v.2),
  λ x. both_and p (q && (r && s)) (f.1 x.0) ((three q r s g h k).1 (x.1, x.2, x.3)),
)

five : (p q r s u : Bool) {X Y Z W V : Type 0} → Decides p X → Decides q Y → Decides r Z → Decides s W → Decides u V
    → Decides (p && (q && (r && (s && u)))) (X × Y × Z × W × V)
five p q r s u f g h k l = (
  λ t. let w = and_both p (q && (r && (s && u))) t in let v = (four q r s u g h k l).0 w.1 in (f.0 w.0, v.0, v.1, v.2, v.3),
  λ x. both_and p (q && (r && (s && u))) (f.1 x.0) ((four q r s u g h k l).1 (x.1, x.2, x.3, x.4)),
)

-- a test that is sound, and passes for what is the same
by_same : {A : Type 0} (same : A → A → Bool) → ((x y : A) → T (same x y) → x ≡ y) → ((x : A) → T (same x x)) → (x y : A) → Decides (same x y) (x ≡ y)
by_same same sound itself x y = (sound x y, λ e. subst (λ y. T (same x y)) e (itself x))

number : (m n : ℕ) → Decides (eqb m n) (m ≡ n)
number m n = by_same eqb eqb→eq eqb_refl m n

simple_sound : (t u : Simple) → T (same_simple t u) → t ≡ u
simple_sound integer integer h = refl
simple_sound integer boolean h = absurd h
simple_sound integer char h = absurd h
simple_sound integer (enumeration w n) h = absurd h
simple_sound boolean integer h = absurd h
simple_sound boolean boolean h = refl
simple_sound boolean char h = absurd h
simple_sound boolean (enumeration w n) h = absurd h
simple_sound char integer h = absurd h
simple_sound char boolean h = absurd h
simple_sound char char h = refl
simple_sound char (enumeration w n) h = absurd h
simple_sound (enumeration v m) integer h = absurd h
simple_sound (enumeration v m) boolean h = absurd h
simple_sound (enumeration v m) char h = absurd h
simple_sound (enumeration v m) (enumeration w n) h =
    let p = and_both (eqb v w) (eqb m n) h in λ i. enumeration (eqb→eq v w p.0 i) (eqb→eq m n p.1 i)

simple_itself : (t : Simple) → T (same_simple t t)
simple_itself integer = tt
simple_itself boolean = tt
simple_itself char = tt
simple_itself (enumeration v m) = both_and (eqb v v) (eqb m m) (eqb_refl v) (eqb_refl m)

simple_is : (t u : Simple) → Decides (same_simple t u) (t ≡ u)
simple_is = by_same same_simple simple_sound simple_itself

writing_sound : (v w : Writing) → T (same_writing v w) → v ≡ w
writing_sound v w h =
    let p = and_both (eqb v.number w.number) (eqb v.inside w.inside) h in
    λ i. record { number = eqb→eq v.number w.number p.0 i; inside = eqb→eq v.inside w.inside p.1 i }

writing_itself : (v : Writing) → T (same_writing v v)
writing_itself v = both_and (eqb v.number v.number) _ (eqb_refl v.number) (eqb_refl v.inside)

integer_sound : (m n : ℤ) → T (same_integer m n) → m ≡ n
integer_sound (pos m) (pos n) h = ap pos (eqb→eq m n h)
integer_sound (pos m) (negsuc n) h = absurd h
integer_sound (negsuc m) (pos n) h = absurd h
integer_sound (negsuc m) (negsuc n) h = ap negsuc (eqb→eq m n h)

integer_itself : (m : ℤ) → T (same_integer m m)
integer_itself (pos m) = eqb_refl m
integer_itself (negsuc m) = eqb_refl m

mutual
  shape_sound : (s u : Shape) → T (same_shape s u) → s ≡ u
  shape_sound (simple t) (simple u) h = ap simple (simple_sound t u h)
  shape_sound (simple t) (array w low high u) h = absurd h
  shape_sound (simple t) (record_of w fs) h = absurd h
  shape_sound (array v low high s) (simple u) h = absurd h
  shape_sound (array v low high s) (array w low' high' u) h =
      let p = and_both (same_writing v w) (same_integer low low' && (same_integer high high' && same_shape s u)) h in
      let q = and_both (same_integer low low') (same_integer high high' && same_shape s u) p.1 in
      let r = and_both (same_integer high high') (same_shape s u) q.1 in
      λ i. array (writing_sound v w p.0 i) (integer_sound low low' q.0 i) (integer_sound high high' r.0 i) (shape_sound s u r.1 i)
  shape_sound (array v low high s) (record_of w fs) h = absurd h
  shape_sound (record_of v gs) (simple u) h = absurd h
  shape_sound (record_of v gs) (array w low high u) h = absurd h
  shape_sound (record_of v gs) (record_of w fs) h =
      let p = and_both (same_writing v w) (same_fields gs fs) h in
      λ i. record_of (writing_sound v w p.0 i) (fields_sound gs fs p.1 i)

  fields_sound : (gs fs : Fields) → T (same_fields gs fs) → gs ≡ fs
  fields_sound no_field no_field h = refl
  fields_sound no_field (field_and u fs) h = absurd h
  fields_sound (field_and s gs) no_field h = absurd h
  fields_sound (field_and s gs) (field_and u fs) h =
      let p = and_both (same_shape s u) (same_fields gs fs) h in λ i. field_and (shape_sound s u p.0 i) (fields_sound gs fs p.1 i)

mutual
  shape_itself : (s : Shape) → T (same_shape s s)
  shape_itself (simple t) = simple_itself t
  shape_itself (array v low high s) =
      both_and (same_writing v v) _ (writing_itself v) (both_and (same_integer low low) _ (integer_itself low) (both_and (same_integer high high) _ (integer_itself high) (shape_itself s)))
  shape_itself (record_of v gs) = both_and (same_writing v v) _ (writing_itself v) (fields_itself gs)

  fields_itself : (gs : Fields) → T (same_fields gs gs)
  fields_itself no_field = tt
  fields_itself (field_and s gs) = both_and (same_shape s s) _ (shape_itself s) (fields_itself gs)

shape_is : (s u : Shape) → Decides (same_shape s u) (s ≡ u)
shape_is = by_same same_shape shape_sound shape_itself

text_sound : (xs ys : List ℕ) → T (same_text xs ys) → xs ≡ ys
text_sound [] [] h = refl
text_sound [] (y ∷ ys) h = absurd h
text_sound (x ∷ xs) [] h = absurd h
text_sound (x ∷ xs) (y ∷ ys) h = let p = and_both (eqb x y) (same_text xs ys) h in λ i. eqb→eq x y p.0 i ∷ text_sound xs ys p.1 i

text_itself : (xs : List ℕ) → T (same_text xs xs)
text_itself [] = tt
text_itself (x ∷ xs) = both_and (eqb x x) _ (eqb_refl x) (text_itself xs)

truth_sound : (a b : Bool) → T (same_truth a b) → a ≡ b
truth_sound true true h = refl
truth_sound true false h = absurd h
truth_sound false true h = absurd h
truth_sound false false h = refl

truth_itself : (a : Bool) → T (same_truth a a)
truth_itself true = tt
truth_itself false = tt

variable_sound : (x y : Variable) → T (same_variable x y) → x ≡ y
variable_sound x y h =
    let w = (five (same_text x.name y.name) (same_shape x.shape y.shape) (eqb x.cell y.cell) (eqb x.inside y.inside) (same_truth x.fixed y.fixed)
    (by_same same_text text_sound text_itself _ _) (shape_is _ _) (number _ _) (number _ _) (by_same same_truth truth_sound truth_itself _ _)).0 h in
    λ i. record { name = w.0 i; shape = w.1 i; cell = w.2 i; inside = w.3 i; fixed = w.4 i }

variable_itself : (x : Variable) → T (same_variable x x)
variable_itself x =
    both_and (same_text x.name x.name) _ (text_itself x.name) (both_and (same_shape x.shape x.shape) _ (shape_itself x.shape) (both_and (eqb x.cell x.cell) _ (eqb_refl x.cell) (both_and (eqb x.inside x.inside) _ (eqb_refl x.inside) (truth_itself x.fixed))))

variable_is : (x y : Variable) → Decides (same_variable x y) (x ≡ y)
variable_is = by_same same_variable variable_sound variable_itself

among_is : (x : Variable) (ys : List Variable) → Decides (among x ys) (Among x ys)
among_is x [] = never
among_is x (y ∷ ys) = (
  λ t. elim (or_either (same_variable x y) (among x ys) t) [ inl h ↦ inl ((variable_is x y).0 h) | inr h ↦ inr ((among_is x ys).0 h) ],
  λ m. either_or (same_variable x y) (among x ys) (elim m [ inl e ↦ inl ((variable_is x y).1 e) | inr h ↦ inr ((among_is x ys).1 h) ]),
)

field_is : (fs : Fields) (o : ℕ) (s : Shape) → Decides (has_field fs o s) (Field fs o s)
field_is no_field o s = never
field_is (field_and u fs) o s = (
  λ t. elim (or_either (eqb o 0 && same_shape u s) (leb (size u) o && has_field fs (o - size u) s) t) [
    | inl h ↦ inl ((two (eqb o 0) (same_shape u s) (number o 0) (shape_is u s)).0 h)
    | inr h ↦
        let w = and_both (leb (size u) o) (has_field fs (o - size u) s) h in
        let l : size u ≤ o = leb→le (size u) o w.0 in
        inr (o - size u, (let e : o ≡ size u + (o - size u) = omega arith in e), (field_is fs (o - size u) s).0 w.1)
  ],
  λ m. either_or (eqb o 0 && same_shape u s) (leb (size u) o && has_field fs (o - size u) s) (elim m [
    | inl h ↦ inl ((two (eqb o 0) (same_shape u s) (number o 0) (shape_is u s)).1 h)
    | inr h ↦
        let e : h.0 ≡ o - size u = omega (arith, h.1) in
        inr (both_and (leb (size u) o) (has_field fs (o - size u) s) (le→leb (size u) o (omega (arith, h.1)))
        ((field_is fs (o - size u) s).1 (subst (λ p. Field fs p s) e h.2)))
  ]),
)

sign_is : (g : Sign) (t : Simple) → Decides (sign_ok g t) (ok_sign g t)
sign_is plus_sign t = simple_is t integer
sign_is minus_sign t = simple_is t integer
sign_is not_sign t = simple_is t boolean

arithmetic : (u t : Simple) → Decides (same_simple u integer && same_simple t integer) ((u ≡ integer) × (t ≡ integer))
arithmetic u t = two _ _ (simple_is u integer) (simple_is t integer)

operator_is : (o : Operator) (u t : Simple) → Decides (operator_ok o u t) (ok_operator o u t)
operator_is plus u t = arithmetic u t
operator_is minus u t = arithmetic u t
operator_is times u t = arithmetic u t
operator_is over u t = arithmetic u t
operator_is div u t = arithmetic u t
operator_is modulo u t = arithmetic u t
operator_is xor u t = two _ _ (simple_is u boolean) (simple_is t boolean)
operator_is eq u t = simple_is t boolean
operator_is ne u t = simple_is t boolean
operator_is lt u t = simple_is t boolean
operator_is le u t = simple_is t boolean
operator_is gt u t = simple_is t boolean
operator_is ge u t = simple_is t boolean

option_is : (o : Option Shape) (s : Shape) → Decides (is_shape o s) (o ≡ some s)
option_is none s = (λ t. absurd t, λ e. none_some e)
option_is (some u) s = (λ t. ap some ((shape_is u s).0 t), λ e. (shape_is u s).1 (some_inj e))

module _ (P : Program) where
  owned_is : (m : ℕ) (x : Variable) → Decides (owned P m x) (Owned P m x)
  owned_is m x = two _ _ (among_is x P.variables) (number x.inside m)

  owned_simple_is : (m : ℕ) (x : Variable) (t : Simple) → Decides (owned_simple P m x t) (OwnedSimple P m x t)
  owned_simple_is m x t = three _ _ _ (among_is x P.variables) (number x.inside m) (shape_is x.shape (simple t))

  all_owned_is : (m : ℕ) (xs : List Variable) → Decides (all_owned P m xs) (AllOwned P m xs)
  all_owned_is m [] = always
  all_owned_is m (x ∷ xs) = two (owned P m x) (all_owned P m xs) (owned_is m x) (all_owned_is m xs)

  formals_owned_is : (m : ℕ) (fs : List Formal) → Decides (formals_owned P m fs) (FormalsOwned P m fs)
  formals_owned_is m [] = always
  formals_owned_is m (by_const x t ∷ fs) =
      three (owned_simple P m x t) (formals_owned P m fs) x.fixed (owned_simple_is m x t) (formals_owned_is m fs) (itself x.fixed)
  formals_owned_is m (by_var s ∷ fs) = formals_owned_is m fs

  allowed_is : (who : Option ℕ) (x : Variable) → Decides (allowed P who x) (Allowed P who x)
  allowed_is none x = always
  allowed_is (some m) x = two (part_of P m x.inside) (not x.fixed) (itself (part_of P m x.inside)) (itself (not x.fixed))

  name_is : (f : List Shape) (who : Option ℕ) (n : Name) (s : Shape) → Decides (name_ok P f who n s) (ok_name P f who n s)
  name_is f who (own x) s =
      three (among x P.variables) (same_shape x.shape s) (allowed P who x) (among_is x P.variables) (shape_is x.shape s) (allowed_is who x)
  name_is f who (formal n) s = option_is (get_elem? f n) s

  mutual
    expr_is : (f : List Shape) (e : Expr) (t : Simple) → Decides (expr_ok P f e t) (ok_expr P f e t)
    expr_is f (constant at u v) t = two (same_simple u t) (fits t v) (simple_is u t) (itself (fits t v))
    expr_is f (value at u x) t = two (same_simple u t) (designator_ok P f none x (simple t)) (simple_is u t) (designator_is f none x (simple t))
    expr_is f (register at u a) t = two (same_simple u t) (address a) (simple_is u t) (itself (address a))
    expr_is f (unary at g e) t = two (sign_ok g t) (expr_ok P f e t) (sign_is g t) (expr_is f e t)
    expr_is f (binary at o u a b) t = three (operator_ok o u t) (expr_ok P f a u) (expr_ok P f b u) (operator_is o u t) (expr_is f a u) (expr_is f b u)
    expr_is f (junction at j a b) t =
        three (same_simple t boolean) (expr_ok P f a boolean) (expr_ok P f b boolean) (simple_is t boolean) (expr_is f a boolean) (expr_is f b boolean)
    expr_is f (apply at p xs) t =
        two (function_ok P p t) (actuals_ok P f at.inside xs (function_formals p)) (function_is p t) (actuals_is f at.inside xs (function_formals p))

    designator_is : (f : List Shape) (who : Option ℕ) (x : Designator) (s : Shape) → Decides (designator_ok P f who x s) (ok_designator P f who x s)
    designator_is f who (whole n) s = name_is f who n s
    designator_is f who (element at x w low high u e) s =
        four (same_shape u s) (open_here P at w) (designator_ok P f who x (array w low high s)) (expr_ok P f e integer)
        (shape_is u s) (itself (open_here P at w)) (designator_is f who x (array w low high s)) (expr_is f e integer)
    designator_is f who (part at x w fs o) s =
        three (open_here P at w) (designator_ok P f who x (record_of w fs)) (has_field fs o s)
        (itself (open_here P at w)) (designator_is f who x (record_of w fs)) (field_is fs o s)

    actuals_is : (f : List Shape) (m : ℕ) (xs : Actuals) (gs : List Formal) → Decides (actuals_ok P f m xs gs) (ok_actuals P f m xs gs)
    actuals_is f m no_more [] = always
    actuals_is f m no_more (g ∷ gs) = never
    actuals_is f m (a_value e xs) [] = never
    actuals_is f m (a_value e xs) (by_const x t ∷ gs) = two (expr_ok P f e t) (actuals_ok P f m xs gs) (expr_is f e t) (actuals_is f m xs gs)
    actuals_is f m (a_value e xs) (by_var s ∷ gs) = never
    actuals_is f m (a_variable x xs) [] = never
    actuals_is f m (a_variable x xs) (by_const y t ∷ gs) = never
    actuals_is f m (a_variable x xs) (by_var s ∷ gs) =
        two (designator_ok P f (some m) x s) (actuals_ok P f m xs gs) (designator_is f (some m) x s) (actuals_is f m xs gs)

    stmt_is : (f : List Shape) (s : Stmt) → Decides (stmt_ok P f s) (ok_stmt P f s)
    stmt_is f skip = always
    stmt_is f (seq a b) = two (stmt_ok P f a) (stmt_ok P f b) (stmt_is f a) (stmt_is f b)
    stmt_is f (assign at t x e) =
        two (designator_ok P f (some at.inside) x (simple t)) (expr_ok P f e t) (designator_is f (some at.inside) x (simple t)) (expr_is f e t)
    stmt_is f (offer at t a e) = two (address a) (expr_ok P f e t) (itself (address a)) (expr_is f e t)
    stmt_is f (if xs) = arms_is f xs
    stmt_is f (while at q e s) = two (expr_ok P f e boolean) (stmt_ok P f s) (expr_is f e boolean) (stmt_is f s)
    stmt_is f (repeat at s q e) = two (stmt_ok P f s) (expr_ok P f e boolean) (stmt_is f s) (expr_is f e boolean)
    stmt_is f (loop at b) = parts_is f b
    stmt_is f (call at p xs) =
        two (procedure_ok P p) (actuals_ok P f at.inside xs (procedure_formals p)) (procedure_is p) (actuals_is f at.inside xs (procedure_formals p))

    arms_is : (f : List Shape) (xs : Arms) → Decides (arms_ok P f xs) (ok_arms P f xs)
    arms_is f (otherwise s) = stmt_is f s
    arms_is f (arm at e s xs) = three (expr_ok P f e boolean) (stmt_ok P f s) (arms_ok P f xs) (expr_is f e boolean) (stmt_is f s) (arms_is f xs)

    parts_is : (f : List Shape) (b : Parts) → Decides (parts_ok P f b) (ok_parts P f b)
    parts_is f (ends s) = stmt_is f s
    parts_is f (exits s at e s' b) =
        four (stmt_ok P f s) (expr_ok P f e boolean) (stmt_ok P f s') (parts_ok P f b) (stmt_is f s) (expr_is f e boolean) (stmt_is f s') (parts_is f b)

    procedure_is : (p : Procedure) → Decides (procedure_ok P p) (ok_procedure P p)
    procedure_is (procedure m fs vs body) =
        three (formals_owned P m fs) (all_owned P m vs) (stmt_ok P (var_shapes (last_first fs)) body)
        (formals_owned_is m fs) (all_owned_is m vs) (stmt_is (var_shapes (last_first fs)) body)

    function_is : (p : Function) (t : Simple) → Decides (function_ok P p t) (ok_function P p t)
    function_is (function m fs r u vs body) t =
        five (same_simple u t) (formals_owned P m fs) (owned_simple P m r u) (all_owned P m vs) (stmt_ok P (var_shapes (last_first fs)) body)
        (simple_is u t) (formals_owned_is m fs) (owned_simple_is m r u) (all_owned_is m vs) (stmt_is (var_shapes (last_first fs)) body)

  bodies_is : (ss : List Stmt) → Decides (bodies_ok P ss) (ok_bodies P ss)
  bodies_is [] = always
  bodies_is (s ∷ ss) = two (stmt_ok P [] s) (bodies_ok P ss) (stmt_is [] s) (bodies_is ss)

nested_is : (n : ℕ) (ms : List ℕ) → Decides (nested n ms) (Nested n ms)
nested_is n [] = always
nested_is n (m ∷ ms) = two (leb (suc m) n || eqb n 0) (nested (suc n) ms) (itself (leb (suc m) n || eqb n 0)) (nested_is (suc n) ms)

dealt_is : (b : ℕ) (xs : List Variable) → Decides (dealt b xs) (Dealt b xs)
dealt_is b [] = always
dealt_is b (x ∷ xs) = two (eqb x.cell b) (dealt (b + size x.shape) xs) (number x.cell b) (dealt_is (b + size x.shape) xs)

is_true : (b : Bool) → T b → b ≡ true
is_true true h = refl
is_true false h = absurd h

pub decided : Decided
unfolding well_formed
decided P =
    let d = five (nested 0 P.modules) (dealt 0 P.variables) (bodies_ok P P.bodies) (few_cells P) (sane_variables P.variables)
    (nested_is 0 P.modules) (dealt_is 0 P.variables) (bodies_is P P.bodies) (itself (few_cells P)) (itself (sane_variables P.variables)) in
    (λ e. d.0 (subst T (sym e) tt), λ w. is_true (well_formed P) (d.1 w))
