-- Worked examples: programs with the places of their texts, and what they do. They hold by computation.
use Rattle.std.specs.Prelude.{◌≡◌, ℕ, zero, suc, true, List, [], ◌∷◌, pos, negsuc, Ok, Err, codes}
use Rattle.fault.specs.declared.Trap.TheVariants.{Index, Divisor, Beyond, Depth, Foreign}
use Rattle.program.specs.Trees.{Variable, Formal, Designator, Actuals, Stmt, Procedure, Function, Program}
use Rattle.program.specs.Types.Simple.{integer, boolean, char}
use Rattle.program.specs.Types.Shape.{simple, array}
use Rattle.program.specs.Trees.Sign.{minus_sign}
use Rattle.program.specs.Trees.Operator.{plus, minus, over, div, modulo, eq, lt}
use Rattle.program.specs.Trees.Junction.{and}
use Rattle.program.specs.Trees.Name.{own, formal}
use Rattle.program.specs.Trees.Formal.{by_const, by_var}
use Rattle.program.specs.Trees.Expr.{constant, value, register, unary, binary, junction, apply}
use Rattle.program.specs.Trees.Designator.{whole, element}
use Rattle.program.specs.Trees.Actuals.{no_more, a_value, a_variable}
use Rattle.program.specs.Trees.Stmt.{skip, seq, assign, offer, while, repeat, call}
use Rattle.program.specs.Trees.Procedure.{procedure}
use Rattle.program.specs.Trees.Function.{function}
use Rattle.program.specs.Decided.{well_formed}
use Rattle.meaning.specs.Actions.State.{finished, trapped, awaiting, offering}
use Rattle.meaning.specs.Running.{tells, line_of, at, variable, const_formal, writing}
use Rattle.meaning.specs.Running.Kind.{take, index, op, test, store, entry, leave, turn}
use Rattle.meaning.specs.Running.Beside.{nobody, somebody}
use Rattle.meaning.specs.Actions.{operated, outcome, left}
use Rattle.meaning.specs.Actions.Action.{a_take, an_index, a_store}
use Rattle.meaning.specs.Actions.Way.{direct}

-- The two-module yard, whose export hides its own `first`:
--     module yard;
--       module export;
--         define put;
--         var first: Boolean;
--         procedure put(w: integer);
--         begin first := false end put;
--       end export;
--       var first: integer;
--     begin first := 4; put(first) end yard.
abbrev yard_first : Variable
yard_first = variable (codes "first") (simple boolean) 0 1

abbrev yard_w : Variable
yard_w = const_formal (codes "w") integer 1 1

abbrev yard_put_called : Procedure
yard_put_called = procedure 1 (by_const yard_w integer ∷ []) [] (assign (at 111 1) boolean (whole (own yard_first)) (constant (at 120 1)
    boolean (pos 0)))

abbrev yard_first_2 : Variable
yard_first_2 = variable (codes "first") (simple integer) 2 0

abbrev pub yard : Program
yard = record {
  modules = 0 ∷ 0 ∷ [];
  variables = yard_first ∷ yard_w ∷ yard_first_2 ∷ [];
  bodies = skip ∷ (seq (assign (at 177 0) integer
      (whole (own yard_first_2)) (constant (at 186 0) integer (pos 4))) (call (at 189 0) yard_put_called (a_value (value (at 193 0) integer
      (whole (own yard_first_2))) no_more))) ∷ [];
}

-- module m; var b: Boolean; begin b := false and (1 / 0 = 1) end m.
abbrev no_quotient_b : Variable
no_quotient_b = variable (codes "b") (simple boolean) 0 0

abbrev pub no_quotient : Program
no_quotient = record {
  modules = 0 ∷ [];
  variables = no_quotient_b ∷ [];
  bodies = (assign (at 32 0) boolean (whole (own no_quotient_b))
      (junction (at 37 0) and (constant (at 37 0) boolean (pos 0)) (binary (at 48 0) eq integer (binary (at 48 0) over integer (constant (at
      48 0) integer (pos 1)) (constant (at 52 0) integer (pos 0))) (constant (at 56 0) integer (pos 1))))) ∷ [];
}

-- module m; var x: integer; begin x := -15 div 4 end m.
abbrev sign_last_x : Variable
sign_last_x = variable (codes "x") (simple integer) 0 0

abbrev pub sign_last : Program
sign_last = record {
  modules = 0 ∷ [];
  variables = sign_last_x ∷ [];
  bodies = (assign (at 32 0) integer (whole (own sign_last_x)) (unary (at
      37 0) minus_sign (binary (at 38 0) div integer (constant (at 38 0) integer (pos 15)) (constant (at 45 0) integer (pos 4))))) ∷ [];
}

-- module m; var x: integer; begin x := 7 - 2 end m.
abbrev left_then_right_x : Variable
left_then_right_x = variable (codes "x") (simple integer) 0 0

abbrev pub left_then_right : Program
left_then_right = record {
  modules = 0 ∷ [];
  variables = left_then_right_x ∷ [];
  bodies = (assign (at 32 0) integer (whole (own
      left_then_right_x)) (binary (at 37 0) minus integer (constant (at 37 0) integer (pos 7)) (constant (at 41 0) integer (pos 2)))) ∷ [];
}

-- module m; var a: array 1:1 of integer; begin a[2] := 1 / 0 end m.
abbrev index_first_a : Variable
index_first_a = variable (codes "a") (array (writing 0 0) (pos 1) (pos 1) (simple integer)) 0 0

abbrev pub index_first : Program
index_first = record {
  modules = 0 ∷ [];
  variables = index_first_a ∷ [];
  bodies = (assign (at 45 0) integer (element (at 45 0) (whole (own
      index_first_a)) (writing 0 0) (pos 1) (pos 1) (simple integer) (constant (at 47 0) integer (pos 2))) (binary (at 53 0) over integer
      (constant (at 53 0) integer (pos 1)) (constant (at 57 0) integer (pos 0)))) ∷ [];
}

-- module m; var a: array 0:1 of integer; begin a[1] := 4 end m.
abbrev index_and_store_a : Variable
index_and_store_a = variable (codes "a") (array (writing 0 0) (pos 0) (pos 1) (simple integer)) 0 0

abbrev pub index_and_store : Program
index_and_store = record {
  modules = 0 ∷ [];
  variables = index_and_store_a ∷ [];
  bodies = (assign (at 45 0) integer (element (at 45 0)
      (whole (own index_and_store_a)) (writing 0 0) (pos 0) (pos 1) (simple integer) (constant (at 47 0) integer (pos 1))) (constant (at 53 0)
      integer (pos 4))) ∷ [];
}

-- module m; var i: integer; begin while i < 1 do i := i + 1 end end m.
abbrev turns_i : Variable
turns_i = variable (codes "i") (simple integer) 0 0

abbrev pub turns : Program
turns = record {
  modules = 0 ∷ [];
  variables = turns_i ∷ [];
  bodies = (while (at 32 0) (at 38 0) (binary (at 38 0) lt integer (value (at 38
      0) integer (whole (own turns_i))) (constant (at 42 0) integer (pos 1))) (assign (at 47 0) integer (whole (own turns_i)) (binary (at 52
      0) plus integer (value (at 52 0) integer (whole (own turns_i))) (constant (at 56 0) integer (pos 1))))) ∷ [];
}

-- device module m; var r[8]: integer; x: integer; begin x := r + 1 end m.
abbrev register_read_x : Variable
register_read_x = variable (codes "x") (simple integer) 0 0

abbrev pub register_read : Program
register_read = record {
  modules = 0 ∷ [];
  variables = register_read_x ∷ [];
  bodies = (assign (at 54 0) integer (whole (own
      register_read_x)) (binary (at 59 0) plus integer (register (at 59 0) integer 8) (constant (at 63 0) integer (pos 1)))) ∷ [];
}

-- device module m; var r[8]: integer; x: integer; begin r := 1; x := 2 end m.
abbrev register_written_x : Variable
register_written_x = variable (codes "x") (simple integer) 0 0

abbrev pub register_written : Program
register_written = record {
  modules = 0 ∷ [];
  variables = register_written_x ∷ [];
  bodies = (seq (offer (at 54 0) integer 8 (constant (at 59
      0) integer (pos 1))) (assign (at 62 0) integer (whole (own register_written_x)) (constant (at 67 0) integer (pos 2)))) ∷ [];
}

-- device module m; var r[8]: Boolean; b: Boolean; begin b := r end m.
abbrev not_of_the_type_b : Variable
not_of_the_type_b = variable (codes "b") (simple boolean) 0 0

abbrev pub not_of_the_type : Program
not_of_the_type = record {
  modules = 0 ∷ [];
  variables = not_of_the_type_b ∷ [];
  bodies = (assign (at 54 0) boolean (whole (own
      not_of_the_type_b)) (register (at 59 0) boolean 8)) ∷ [];
}

-- module m; var i: integer; a: array 0:1 of integer; procedure p(var b: integer); begin i := 1; b := 6 end p; procedure q(var c: integer);
-- begin p(c) end q; begin q(a[i]) end m.
abbrev onward_i : Variable
onward_i = variable (codes "i") (simple integer) 0 0

abbrev onward_a : Variable
onward_a = variable (codes "a") (array (writing 0 0) (pos 0) (pos 1) (simple integer)) 1 0

abbrev onward_p_called : Procedure
onward_p_called = procedure 0 (by_var (simple integer) ∷ []) [] (seq (assign (at 86 0) integer (whole (own onward_i)) (constant (at 91 0)
    integer (pos 1))) (assign (at 94 0) integer (whole (formal 0)) (constant (at 99 0) integer (pos 6))))

abbrev onward_q_called : Procedure
onward_q_called = procedure 0 (by_var (simple integer) ∷ []) [] (call (at 143 0) onward_p_called (a_variable (whole (formal 0)) no_more))

abbrev pub onward : Program
onward = record {
  modules = 0 ∷ [];
  variables = onward_i ∷ onward_a ∷ [];
  bodies = (call (at 161 0) onward_q_called (a_variable (element (at
      163 0) (whole (own onward_a)) (writing 0 0) (pos 0) (pos 1) (simple integer) (value (at 165 0) integer (whole (own onward_i))))
      no_more)) ∷ [];
}

-- module m; type t = array 0:1 of integer; var a: t; procedure p(var b: integer); begin b := 6 end p; procedure q(var c: t); begin p(c[1])
-- end q; begin q(a) end m.
abbrev part_onward_a : Variable
part_onward_a = variable (codes "a") (array (writing 0 0) (pos 0) (pos 1) (simple integer)) 0 0

abbrev part_onward_p_called : Procedure
part_onward_p_called = procedure 0 (by_var (simple integer) ∷ []) [] (assign (at 86 0) integer (whole (formal 0)) (constant (at 91 0)
    integer (pos 6)))

abbrev part_onward_q_called : Procedure
part_onward_q_called = procedure 0 (by_var (array (writing 0 0) (pos 0) (pos 1) (simple integer)) ∷ []) [] (call (at 129 0)
    part_onward_p_called (a_variable (element (at 131 0) (whole (formal 0)) (writing 0 0) (pos 0) (pos 1) (simple integer) (constant (at 133
    0) integer (pos 1))) no_more))

abbrev pub part_onward : Program
part_onward = record {
  modules = 0 ∷ [];
  variables = part_onward_a ∷ [];
  bodies = (call (at 150 0) part_onward_q_called (a_variable (whole
      (own part_onward_a)) no_more)) ∷ [];
}

-- module m; procedure p(n: integer); var a: integer; begin a := a + n end p; begin p(2); p(3) end m.
abbrev entry_clears_n : Variable
entry_clears_n = const_formal (codes "n") integer 0 0

abbrev entry_clears_a : Variable
entry_clears_a = variable (codes "a") (simple integer) 1 0

abbrev entry_clears_p_called : Procedure
entry_clears_p_called = procedure 0 (by_const entry_clears_n integer ∷ []) (entry_clears_a ∷ []) (assign (at 57 0) integer (whole (own
    entry_clears_a)) (binary (at 62 0) plus integer (value (at 62 0) integer (whole (own entry_clears_a))) (value (at 66 0) integer (whole
    (own entry_clears_n)))))

abbrev pub entry_clears : Program
entry_clears = record {
  modules = 0 ∷ [];
  variables = entry_clears_n ∷ entry_clears_a ∷ [];
  bodies = (seq (call (at 81 0)
      entry_clears_p_called (a_value (constant (at 83 0) integer (pos 2)) no_more)) (call (at 87 0) entry_clears_p_called (a_value (constant
      (at 89 0) integer (pos 3)) no_more))) ∷ [];
}

-- The depth: f has 199 var formals and a const one, and x := f(x, .., x, f(x, .., x, 0C)) has 1 target, 398 variables and a value waiting, which
-- is 400. The same between `repeat` and `until true` is one deeper, and traps where the value is taken.
abbrev lend : ℕ → Designator → Actuals → Actuals
lend zero x xs = xs
lend (suc n) x xs = a_variable x (lend n x xs)

abbrev var_formals : ℕ → List Formal → List Formal
var_formals zero fs = fs
var_formals (suc n) fs = by_var (simple char) ∷ var_formals n fs

abbrev deep_x : Variable
deep_x = variable (codes "x") (simple char) 0 0

abbrev deep_n : Variable
deep_n = const_formal (codes "n") char 1 0

abbrev deep_result : Variable
deep_result = variable (codes "f") (simple char) 2 0

abbrev deep_function : Function
deep_function =
    function 0 (var_formals 199 (by_const deep_n char ∷ [])) deep_result char []
    (assign (at 1150 0) char (whole (own deep_result)) (value (at 1155 0) char (whole (own deep_n))))

-- the assignment, with the places of its target, of its calls and of its constant
abbrev deep_call : (target outer inner constant : ℕ) → Stmt
deep_call p o i c =
    assign (at p 0) char (whole (own deep_x))
    (apply (at o 0) deep_function (lend 199 (whole (own deep_x)) (a_value
    (apply (at i 0) deep_function (lend 199 (whole (own deep_x)) (a_value (constant (at c 0) char (pos 0)) no_more))) no_more)))

abbrev deep_program : Stmt → Program
deep_program s = record { modules = 0 ∷ []; variables = deep_x ∷ deep_n ∷ deep_result ∷ []; bodies = s ∷ [] }

abbrev pub depth_400 : Program
depth_400 = deep_program (deep_call 1170 1175 1774 2373)

abbrev pub depth_401 : Program
depth_401 = deep_program (repeat (at 1170 0) (deep_call 1177 1182 1781 2380) (at 2391 0) (constant (at 2391 0) boolean (pos 1)))

-- all of it; the table of divisions and traps first
pub record Worked : Type 0 where
  pub drops_the_fraction : operated over (negsuc 14) (pos 4) ≡ Ok (negsuc 2)
  pub rounds_down : operated div (negsuc 14) (pos 4) ≡ Ok (negsuc 3)
  pub rests : operated modulo (negsuc 14) (pos 4) ≡ Ok (pos 1)
  pub divisor_below_1 : operated div (pos 15) (negsuc 3) ≡ Err Divisor
  pub remainder_below_1 : operated modulo (pos 15) (negsuc 3) ≡ Err Divisor
  pub divisor_0 : operated over (pos 1) (pos 0) ≡ Err Divisor
  pub one_too_large : operated plus (pos 2147483647) (pos 1) ≡ Err Beyond
  pub deep_before_foreign : outcome 401 (a_take 0 boolean) (pos 7 ∷ []) ≡ Err Depth
  pub index_before_deep : outcome 401 (an_index 0 (writing 0 0) (pos 0) (pos 1) (simple integer) (pos 2)) [] ≡ Err Index
  pub foreign_cell : outcome 400 (a_take 0 boolean) (pos 7 ∷ []) ≡ Err Foreign
  pub trapped_changes_nothing : left (a_store direct 0 (pos 1)) (Err Depth) (pos 0 ∷ []) ≡ pos 0 ∷ []
  pub one_too_small : operated minus (negsuc 2147483646) (pos 1) ≡ Err Beyond
  pub yard_runs : tells nobody 100 yard ≡ (
    (take, 186, 2) ∷ (store, 177, 0) ∷ (take, 193, 1) ∷ (entry, 189, 1) ∷ (take, 120, 3) ∷ (
      store,
      111,
      1,
    ) ∷ (leave, 189, 0) ∷ [],
    finished,
    pos 0 ∷ pos 4 ∷ pos 4 ∷ [],
  )
  pub yard_fits : well_formed yard ≡ true
  pub no_quotient_runs : tells nobody 100 no_quotient ≡ ((take, 37, 2) ∷ (op, 37, 2) ∷ (store, 32, 0) ∷ [], finished, pos 0 ∷ [])
  pub no_quotient_fits : well_formed no_quotient ≡ true
  pub sign_last_runs : tells nobody 100 sign_last ≡ (
    (take, 38, 2) ∷ (take, 45, 3) ∷ (op, 38, 2) ∷ (op, 37, 2) ∷ (store, 32, 0) ∷ [],
    finished,
    negsuc 2 ∷ [],
  )
  pub sign_last_fits : well_formed sign_last ≡ true
  pub left_then_right_runs : tells nobody 100 left_then_right ≡ (
    (take, 37, 2) ∷ (take, 41, 3) ∷ (op, 37, 2) ∷ (store, 32, 0) ∷ [],
    finished,
    pos 5 ∷ [],
  )
  pub left_then_right_fits : well_formed left_then_right ≡ true
  pub index_first_runs : tells nobody 100 index_first ≡ ((take, 47, 2) ∷ (index, 45, 1) ∷ [], trapped Index 45, pos 0 ∷ [])
  pub index_first_fits : well_formed index_first ≡ true
  pub index_and_store_runs : tells nobody 100 index_and_store ≡ (
    (take, 47, 2) ∷ (index, 45, 1) ∷ (take, 53, 2) ∷ (store, 45, 0) ∷ [],
    finished,
    pos 0 ∷ pos 4 ∷ [],
  )
  pub index_and_store_fits : well_formed index_and_store ≡ true
  pub turns_runs : tells nobody 100 turns ≡ (
    (turn, 32, 1) ∷ (take, 38, 2) ∷ (take, 42, 3) ∷ (op, 38, 2) ∷ (test, 38, 1) ∷ (take, 52, 3) ∷
        (take, 56, 4) ∷ (op, 52, 3) ∷ (store, 47, 1) ∷ (turn, 32, 1) ∷ (take, 38, 2) ∷ (take, 42, 3) ∷ (op, 38, 2) ∷ (test, 38, 1) ∷ [],
    finished,
    pos 1 ∷ [],
  )
  pub turns_fits : well_formed turns ≡ true
  pub register_read_runs : tells nobody 100 register_read ≡ ((take, 59, 2) ∷ [], awaiting 8 integer, pos 0 ∷ [])
  pub register_read_fits : well_formed register_read ≡ true
  pub register_given : tells (somebody (pos 5 ∷ [])) 100 register_read ≡ (
    (take, 59, 2) ∷ (take, 63, 3) ∷ (op, 59, 2) ∷ (store, 54, 0) ∷ [],
    finished,
    pos 6 ∷ [],
  )
  pub register_written_runs : tells nobody 100 register_written ≡ ((take, 59, 2) ∷ (store, 54, 0) ∷ [], offering 8 (pos 1), pos 0 ∷ [])
  pub register_written_fits : well_formed register_written ≡ true
  pub register_taken : tells (somebody []) 100 register_written ≡ (
    (take, 59, 2) ∷ (store, 54, 0) ∷ (take, 67, 2) ∷ (store, 62, 0) ∷ [],
    finished,
    pos 2 ∷ [],
  )
  pub not_of_the_type_runs : tells (somebody (pos 2 ∷ [])) 100 not_of_the_type ≡ ((take, 59, 2) ∷ [], awaiting 8 boolean, pos 0 ∷ [])
  pub not_of_the_type_fits : well_formed not_of_the_type ≡ true
  pub onward_runs : tells nobody 100 onward ≡ (
    (take, 165, 2) ∷ (index, 163, 1) ∷ (entry, 161, 1) ∷ (entry, 143, 2) ∷ (take, 91, 4) ∷
        (store, 86, 2) ∷ (take, 99, 4) ∷ (store, 94, 2) ∷ (leave, 143, 1) ∷ (leave, 161, 0) ∷ [],
    finished,
    (pos 1) ∷ (pos 6) ∷ (pos 0) ∷ [],
  )
  pub onward_fits : well_formed onward ≡ true
  pub part_onward_runs : tells nobody 100 part_onward ≡ (
    (entry, 150, 1) ∷ (take, 133, 3) ∷ (index, 131, 2) ∷ (entry, 129, 2) ∷ (
      take,
      91,
      4,
    ) ∷ (store, 86, 2) ∷ (leave, 129, 1) ∷ (leave, 150, 0) ∷ [],
    finished,
    (pos 0) ∷ (pos 6) ∷ [],
  )
  pub part_onward_fits : well_formed part_onward ≡ true
  pub entry_clears_runs : tells nobody 100 entry_clears ≡ (
    (take, 83, 1) ∷ (entry, 81, 1) ∷ (take, 62, 3) ∷ (take, 66, 4) ∷ (op, 62, 3) ∷
        (store, 57, 1) ∷ (leave, 81, 0) ∷ (take, 89, 1) ∷ (entry, 87, 1) ∷ (take, 62, 3) ∷ (take, 66, 4) ∷ (op, 62, 3) ∷ (store, 57, 1) ∷
        (leave, 87, 0) ∷ [],
    finished,
    (pos 3) ∷ (pos 3) ∷ [],
  )
  pub entry_clears_fits : well_formed entry_clears ≡ true
  pub depth_400_runs : line_of (tells nobody 100 depth_400) ≡ (10, finished, pos 0 ∷ pos 0 ∷ pos 0 ∷ [])
  pub depth_400_fits : well_formed depth_400 ≡ true
  pub depth_401_runs : tells nobody 100 depth_401 ≡ (
    (turn, 1170, 1) ∷ (take, 2380, 401) ∷ [],
    trapped Depth 2380,
    pos 0 ∷ pos 0 ∷ pos 0 ∷
        [],
  )
  pub depth_401_fits : well_formed depth_401 ≡ true
