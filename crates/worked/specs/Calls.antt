-- Worked examples: calls, actuals and results. Each program has the places of its text.
use Rattle.std.specs.Prelude.{◌≡◌, true, [], ◌∷◌, pos, codes}
use Rattle.program.specs.Trees.{Variable, Procedure, Function, Program}
use Rattle.program.specs.Types.Simple.{integer, boolean, char}
use Rattle.program.specs.Types.Shape.{simple, array, record_of}
use Rattle.program.specs.Types.Fields.{no_field, field_and}
use Rattle.program.specs.Trees.Operator.{plus, times}
use Rattle.program.specs.Trees.Name.{own}
use Rattle.program.specs.Trees.Formal.{by_const, by_var}
use Rattle.program.specs.Trees.Expr.{constant, value, binary, apply}
use Rattle.program.specs.Trees.Designator.{whole, element, part}
use Rattle.program.specs.Trees.Actuals.{no_more, a_value, a_variable}
use Rattle.program.specs.Trees.Stmt.{skip, seq, assign, if, loop, call}
use Rattle.program.specs.Trees.Arms.{otherwise, arm}
use Rattle.program.specs.Trees.Parts.{ends, exits}
use Rattle.program.specs.Trees.Procedure.{procedure}
use Rattle.program.specs.Trees.Function.{function}
use Rattle.program.specs.Decided.{well_formed}
use Rattle.meaning.specs.Actions.State.{finished}
use Rattle.meaning.specs.Running.{tells, at, variable, const_formal, writing}
use Rattle.meaning.specs.Running.Kind.{take, index, op, test, store, entry, leave, turn}
use Rattle.meaning.specs.Running.Beside.{nobody}

-- module m; procedure f: integer; begin f := 1 end f; var x: integer; begin x := f end m.
abbrev calls_1_f : Variable
calls_1_f = variable (codes "f") (simple integer) 0 0

abbrev calls_1_f_called : Function
calls_1_f_called = function 0 [] calls_1_f integer [] (assign (at 38 0) integer (whole (own calls_1_f)) (constant (at 43 0) integer (pos
    1)))

abbrev calls_1_x : Variable
calls_1_x = variable (codes "x") (simple integer) 1 0

abbrev pub calls_1 : Program
calls_1 = record {
  modules = 0 ∷ [];
  variables = calls_1_f ∷ calls_1_x ∷ [];
  bodies = (assign (at 74 0) integer (whole (own calls_1_x))
      (apply (at 79 0) calls_1_f_called no_more)) ∷ [];
}

-- module m; procedure p; end p; begin p end m.
abbrev calls_2_p_called : Procedure
calls_2_p_called = procedure 0 [] [] skip

abbrev pub calls_2 : Program
calls_2 = record { modules = 0 ∷ []; variables = []; bodies = (call (at 36 0) calls_2_p_called no_more) ∷ [] }

-- module m; procedure p(a: integer; var b: integer; c: integer); end p; var x: integer; begin p(1, x, 2) end m.
abbrev awaits_passing_1_a : Variable
awaits_passing_1_a = const_formal (codes "a") integer 0 0

abbrev awaits_passing_1_c : Variable
awaits_passing_1_c = const_formal (codes "c") integer 1 0

abbrev awaits_passing_1_p_called : Procedure
awaits_passing_1_p_called = procedure 0 (by_const awaits_passing_1_a integer ∷ by_var (simple integer) ∷ by_const awaits_passing_1_c integer
    ∷ []) [] skip

abbrev awaits_passing_1_x : Variable
awaits_passing_1_x = variable (codes "x") (simple integer) 2 0

abbrev pub awaits_passing_1 : Program
awaits_passing_1 = record {
  modules = 0 ∷ [];
  variables = awaits_passing_1_a ∷ awaits_passing_1_c ∷ awaits_passing_1_x ∷ [];
  bodies = (call
      (at 92 0) awaits_passing_1_p_called (a_value (constant (at 94 0) integer (pos 1)) (a_variable (whole (own awaits_passing_1_x)) (a_value
      (constant (at 100 0) integer (pos 2)) no_more)))) ∷ [];
}

-- module m; procedure p(var a: char); end p; var x: array 1:2 of char; begin p(x[2]) end m.
abbrev awaits_passing_2_p_called : Procedure
awaits_passing_2_p_called = procedure 0 (by_var (simple char) ∷ []) [] skip

abbrev awaits_passing_2_x : Variable
awaits_passing_2_x = variable (codes "x") (array (writing 0 0) (pos 1) (pos 2) (simple char)) 0 0

abbrev pub awaits_passing_2 : Program
awaits_passing_2 = record {
  modules = 0 ∷ [];
  variables = awaits_passing_2_x ∷ [];
  bodies = (call (at 75 0) awaits_passing_2_p_called
      (a_variable (element (at 77 0) (whole (own awaits_passing_2_x)) (writing 0 0) (pos 1) (pos 2) (simple char) (constant (at 79 0) integer
      (pos 2))) no_more)) ∷ [];
}

-- module m; var x: integer; procedure f: integer; begin f := 2 end f; begin x := 1 + f end m.
abbrev open_bodies_1_x : Variable
open_bodies_1_x = variable (codes "x") (simple integer) 0 0

abbrev open_bodies_1_f : Variable
open_bodies_1_f = variable (codes "f") (simple integer) 1 0

abbrev open_bodies_1_f_called : Function
open_bodies_1_f_called = function 0 [] open_bodies_1_f integer [] (assign (at 54 0) integer (whole (own open_bodies_1_f)) (constant (at 59
    0) integer (pos 2)))

abbrev pub open_bodies_1 : Program
open_bodies_1 = record {
  modules = 0 ∷ [];
  variables = open_bodies_1_x ∷ open_bodies_1_f ∷ [];
  bodies = (assign (at 74 0) integer (whole
      (own open_bodies_1_x)) (binary (at 79 0) plus integer (constant (at 79 0) integer (pos 1)) (apply (at 83 0) open_bodies_1_f_called
      no_more))) ∷ [];
}

-- module m; procedure p; begin loop when true exit end end p; begin if true then p end end m.
abbrev open_bodies_2_p_called : Procedure
open_bodies_2_p_called = procedure 0 [] [] (loop (at 29 0) (exits skip (at 39 0) (constant (at 39 0) boolean (pos 1)) skip (ends skip)))

abbrev pub open_bodies_2 : Program
open_bodies_2 = record {
  modules = 0 ∷ [];
  variables = [];
  bodies = (if (arm (at 69 0) (constant (at 69 0) boolean (pos 1)) (call (at 79 0)
      open_bodies_2_p_called no_more) (otherwise skip))) ∷ [];
}

-- module m; procedure f(a: integer): integer; var b: char; begin f := a; b := 1C end f; var c: integer; d: record e: char; g: array 0:1 of
-- char end; begin c := f(9); d.g[0] := 2C end m.
abbrev order_of_cells_a : Variable
order_of_cells_a = const_formal (codes "a") integer 0 0

abbrev order_of_cells_f : Variable
order_of_cells_f = variable (codes "f") (simple integer) 1 0

abbrev order_of_cells_b : Variable
order_of_cells_b = variable (codes "b") (simple char) 2 0

abbrev order_of_cells_f_called : Function
order_of_cells_f_called = function 0 (by_const order_of_cells_a integer ∷ []) order_of_cells_f integer (order_of_cells_b ∷ []) (seq (assign
    (at 63 0) integer (whole (own order_of_cells_f)) (value (at 68 0) integer (whole (own order_of_cells_a)))) (assign (at 71 0) char (whole
    (own order_of_cells_b)) (constant (at 76 0) char (pos 1))))

abbrev order_of_cells_c : Variable
order_of_cells_c = variable (codes "c") (simple integer) 3 0

abbrev order_of_cells_d : Variable
order_of_cells_d = variable (codes "d") (record_of (writing 1 0) (field_and (simple char) (field_and (array (writing 0 0) (pos 0) (pos 1)
    (simple char)) no_field))) 4 0

abbrev pub order_of_cells : Program
order_of_cells = record {
  modules = 0 ∷ [];
  variables = order_of_cells_a ∷ order_of_cells_f ∷ order_of_cells_b ∷ order_of_cells_c ∷
      order_of_cells_d ∷ [];
  bodies = (seq (assign (at 153 0) integer (whole (own order_of_cells_c)) (apply (at 158 0) order_of_cells_f_called
      (a_value (constant (at 160 0) integer (pos 9)) no_more))) (assign (at 164 0) char (element (at 164 0) (part (at 164 0) (whole (own
      order_of_cells_d)) (writing 1 0) (field_and (simple char) (field_and (array (writing 0 0) (pos 0) (pos 1) (simple char)) no_field)) 1)
      (writing 0 0) (pos 0) (pos 1) (simple char) (constant (at 168 0) integer (pos 0))) (constant (at 174 0) char (pos 2)))) ∷ [];
}

-- module m; procedure f(a, b: integer): integer; begin f := a * 10 + b end f; var x: integer; begin x := f(1, f(2, 3)) end m.
abbrev call_in_actuals_a : Variable
call_in_actuals_a = const_formal (codes "a") integer 0 0

abbrev call_in_actuals_b : Variable
call_in_actuals_b = const_formal (codes "b") integer 1 0

abbrev call_in_actuals_f : Variable
call_in_actuals_f = variable (codes "f") (simple integer) 2 0

abbrev call_in_actuals_f_called : Function
call_in_actuals_f_called = function 0 (by_const call_in_actuals_a integer ∷ by_const call_in_actuals_b integer ∷ []) call_in_actuals_f
    integer [] (assign (at 53 0) integer (whole (own call_in_actuals_f)) (binary (at 58 0) plus integer (binary (at 58 0) times integer
    (value (at 58 0) integer (whole (own call_in_actuals_a))) (constant (at 62 0) integer (pos 10))) (value (at 67 0) integer (whole (own
    call_in_actuals_b)))))

abbrev call_in_actuals_x : Variable
call_in_actuals_x = variable (codes "x") (simple integer) 3 0

abbrev pub call_in_actuals : Program
call_in_actuals = record {
  modules = 0 ∷ [];
  variables = call_in_actuals_a ∷ call_in_actuals_b ∷ call_in_actuals_f ∷ call_in_actuals_x ∷ [];
  bodies = (assign (at 98 0) integer (whole (own call_in_actuals_x)) (apply (at 103 0) call_in_actuals_f_called (a_value (constant (at 105
      0) integer (pos 1)) (a_value (apply (at 108 0) call_in_actuals_f_called (a_value (constant (at 110 0) integer (pos 2)) (a_value
      (constant (at 113 0) integer (pos 3)) no_more))) no_more)))) ∷ [];
}

-- module m; var x: integer; procedure f: integer; begin if false then f := 1 end end f; begin x := f end m.
abbrev result_not_assigned_x : Variable
result_not_assigned_x = variable (codes "x") (simple integer) 0 0

abbrev result_not_assigned_f : Variable
result_not_assigned_f = variable (codes "f") (simple integer) 1 0

abbrev result_not_assigned_f_called : Function
result_not_assigned_f_called = function 0 [] result_not_assigned_f integer [] (if (arm (at 57 0) (constant (at 57 0) boolean (pos 0))
    (assign (at 68 0) integer (whole (own result_not_assigned_f)) (constant (at 73 0) integer (pos 1))) (otherwise skip)))

abbrev pub result_not_assigned : Program
result_not_assigned = record {
  modules = 0 ∷ [];
  variables = result_not_assigned_x ∷ result_not_assigned_f ∷ [];
  bodies = (assign (at 92 0)
      integer (whole (own result_not_assigned_x)) (apply (at 97 0) result_not_assigned_f_called no_more)) ∷ [];
}

-- module m; module i; define q; procedure q; end q; end i; procedure p; begin q end p; begin p end m.
abbrev calls_onward_q_called : Procedure
calls_onward_q_called = procedure 1 [] [] skip

abbrev calls_onward_p_called : Procedure
calls_onward_p_called = procedure 0 [] [] (call (at 76 0) calls_onward_q_called no_more)

abbrev pub calls_onward : Program
calls_onward = record { modules = 0 ∷ 0 ∷ []; variables = []; bodies = skip ∷ (call (at 91 0) calls_onward_p_called no_more) ∷ [] }

pub record CallsWorked : Type 0 where
  pub calls_1_runs : tells nobody 100 calls_1 ≡ (
    (entry, 79, 2) ∷ (take, 43, 4) ∷ (store, 38, 2) ∷ (leave, 79, 2) ∷ (store, 74, 0) ∷ [],
    finished,
    (pos 1) ∷ (pos 1) ∷ [],
  )
  pub calls_1_fits : well_formed calls_1 ≡ true
  pub calls_2_runs : tells nobody 100 calls_2 ≡ ((entry, 36, 1) ∷ (leave, 36, 0) ∷ [], finished, [])
  pub calls_2_fits : well_formed calls_2 ≡ true
  pub awaits_passing_1_runs : tells nobody 100 awaits_passing_1 ≡ (
    (take, 94, 1) ∷ (take, 100, 3) ∷ (entry, 92, 1) ∷ (leave, 92, 0) ∷ [],
    finished,
    (pos 1) ∷ (pos 2) ∷ (pos 0) ∷ [],
  )
  pub awaits_passing_1_fits : well_formed awaits_passing_1 ≡ true
  pub awaits_passing_2_runs : tells nobody 100 awaits_passing_2 ≡ (
    (take, 79, 2) ∷ (index, 77, 1) ∷ (entry, 75, 1) ∷ (leave, 75, 0) ∷ [],
    finished,
    (pos 0) ∷ (pos 0) ∷ [],
  )
  pub awaits_passing_2_fits : well_formed awaits_passing_2 ≡ true
  pub open_bodies_1_runs : tells nobody 100 open_bodies_1 ≡ (
    (take, 79, 2) ∷ (entry, 83, 3) ∷ (take, 59, 5) ∷ (store, 54, 3) ∷ (
      leave,
      83,
      3,
    ) ∷ (op, 79, 2) ∷ (store, 74, 0) ∷ [],
    finished,
    (pos 3) ∷ (pos 2) ∷ [],
  )
  pub open_bodies_1_fits : well_formed open_bodies_1 ≡ true
  pub open_bodies_2_runs : tells nobody 100 open_bodies_2 ≡ (
    (take, 69, 2) ∷ (test, 69, 1) ∷ (entry, 79, 2) ∷ (turn, 29, 3) ∷ (take, 39, 4)
        ∷ (test, 39, 3) ∷ (leave, 79, 1) ∷ [],
    finished,
    [],
  )
  pub open_bodies_2_fits : well_formed open_bodies_2 ≡ true
  pub order_of_cells_runs : tells nobody 100 order_of_cells ≡ (
    (take, 160, 2) ∷ (entry, 158, 2) ∷ (take, 68, 4) ∷ (store, 63, 2) ∷ (
      take,
      76,
      4,
    ) ∷ (store, 71, 2) ∷ (leave, 158, 2) ∷ (store, 153, 0) ∷ (take, 168, 2) ∷ (index, 164, 1) ∷ (take, 174, 2) ∷ (store, 164, 0) ∷
        [],
    finished,
    (pos 9) ∷ (pos 9) ∷ (pos 1) ∷ (pos 9) ∷ (pos 0) ∷ (pos 2) ∷ (pos 0) ∷ [],
  )
  pub order_of_cells_fits : well_formed order_of_cells ≡ true
  pub call_in_actuals_runs : tells nobody 100 call_in_actuals ≡ (
    (take, 105, 2) ∷ (take, 110, 3) ∷ (take, 113, 4) ∷ (entry, 108, 3) ∷ (
      take,
      58,
      5,
    ) ∷ (take, 62, 6) ∷ (op, 58, 5) ∷ (take, 67, 6) ∷ (op, 58, 5) ∷ (store, 53, 3) ∷ (leave, 108, 3) ∷ (entry, 103, 2) ∷ (
      take,
      58,
      4,
    ) ∷ (take, 62, 5) ∷ (op, 58, 4) ∷ (take, 67, 5) ∷ (op, 58, 4) ∷ (store, 53, 2) ∷ (leave, 103, 2) ∷ (store, 98, 0) ∷ [],
    finished,
    (pos 1) ∷ (pos 23) ∷ (pos 33) ∷ (pos 33) ∷ [],
  )
  pub call_in_actuals_fits : well_formed call_in_actuals ≡ true
  pub result_not_assigned_runs : tells nobody 100 result_not_assigned ≡ (
    (entry, 97, 2) ∷ (take, 57, 4) ∷ (test, 57, 3) ∷ (leave, 97, 2) ∷
        (store, 92, 0) ∷ [],
    finished,
    (pos 0) ∷ (pos 0) ∷ [],
  )
  pub result_not_assigned_fits : well_formed result_not_assigned ≡ true
  pub calls_onward_runs : tells nobody 100 calls_onward ≡ (
    (entry, 91, 1) ∷ (entry, 76, 2) ∷ (leave, 76, 1) ∷ (leave, 91, 0) ∷ [],
    finished,
    [],
  )
  pub calls_onward_fits : well_formed calls_onward ≡ true
