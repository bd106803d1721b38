-- Worked examples: traps, and where arrays are opened. Each program has the places of its text.
use Rattle.std.specs.Prelude.{◌≡◌, true, [], ◌∷◌, pos, negsuc, codes}
use Rattle.fault.specs.declared.Trap.TheVariants.{Index, Divisor, Beyond}
use Rattle.program.specs.Trees.{Variable, Procedure, Program}
use Rattle.program.specs.Types.Simple.{integer, boolean, char, enumeration}
use Rattle.program.specs.Types.Shape.{simple, array, record_of}
use Rattle.program.specs.Types.Fields.{no_field, field_and}
use Rattle.program.specs.Trees.Sign.{minus_sign}
use Rattle.program.specs.Trees.Operator.{plus, minus, times, over, div, modulo, eq}
use Rattle.program.specs.Trees.Name.{own}
use Rattle.program.specs.Trees.Expr.{constant, value, unary, binary}
use Rattle.program.specs.Trees.Designator.{whole, element, part}
use Rattle.program.specs.Trees.Actuals.{no_more}
use Rattle.program.specs.Trees.Stmt.{skip, seq, assign, call}
use Rattle.program.specs.Trees.Procedure.{procedure}
use Rattle.program.specs.Decided.{well_formed}
use Rattle.meaning.specs.Actions.State.{finished, trapped}
use Rattle.meaning.specs.Running.{tells, line_of, at, variable, writing}
use Rattle.meaning.specs.Running.Kind.{take, index, op, store, entry, leave}
use Rattle.meaning.specs.Running.Beside.{nobody}

-- module m; var a, b: integer; begin a := (-2147483647) div 2; b := (-7) mod 2 end m.
abbrev divisions_1_a : Variable
divisions_1_a = variable (codes "a") (simple integer) 0 0

abbrev divisions_1_b : Variable
divisions_1_b = variable (codes "b") (simple integer) 1 0

abbrev pub divisions_1 : Program
divisions_1 = record {
  modules = 0 ∷ [];
  variables = divisions_1_a ∷ divisions_1_b ∷ [];
  bodies = (seq (assign (at 35 0) integer (whole (own
      divisions_1_a)) (binary (at 40 0) div integer (unary (at 41 0) minus_sign (constant (at 42 0) integer (pos 2147483647))) (constant (at
      58 0) integer (pos 2)))) (assign (at 61 0) integer (whole (own divisions_1_b)) (binary (at 66 0) modulo integer (unary (at 67 0)
      minus_sign (constant (at 68 0) integer (pos 7))) (constant (at 75 0) integer (pos 2))))) ∷ [];
}

-- module m; var a: integer; begin a := 7 / (-2) end m.
abbrev divisions_2_a : Variable
divisions_2_a = variable (codes "a") (simple integer) 0 0

abbrev pub divisions_2 : Program
divisions_2 = record {
  modules = 0 ∷ [];
  variables = divisions_2_a ∷ [];
  bodies = (assign (at 32 0) integer (whole (own divisions_2_a))
      (binary (at 37 0) over integer (constant (at 37 0) integer (pos 7)) (unary (at 42 0) minus_sign (constant (at 43 0) integer (pos 2)))))
      ∷ [];
}

-- module m; var a: integer; begin a := 7 mod (-2) end m.
abbrev divisions_3_a : Variable
divisions_3_a = variable (codes "a") (simple integer) 0 0

abbrev pub divisions_3 : Program
divisions_3 = record {
  modules = 0 ∷ [];
  variables = divisions_3_a ∷ [];
  bodies = (assign (at 32 0) integer (whole (own divisions_3_a))
      (binary (at 37 0) modulo integer (constant (at 37 0) integer (pos 7)) (unary (at 44 0) minus_sign (constant (at 45 0) integer (pos
      2))))) ∷ [];
}

-- module m; var x: integer; begin x := -2147483647 - 1 end m.
abbrev beyond_1_x : Variable
beyond_1_x = variable (codes "x") (simple integer) 0 0

abbrev pub beyond_1 : Program
beyond_1 = record {
  modules = 0 ∷ [];
  variables = beyond_1_x ∷ [];
  bodies = (assign (at 32 0) integer (whole (own beyond_1_x)) (binary (at
      37 0) minus integer (unary (at 37 0) minus_sign (constant (at 38 0) integer (pos 2147483647))) (constant (at 51 0) integer (pos 1)))) ∷
      [];
}

-- module m; var x: integer; begin x := 2147483647 + 1 - 1 end m.
abbrev beyond_2_x : Variable
beyond_2_x = variable (codes "x") (simple integer) 0 0

abbrev pub beyond_2 : Program
beyond_2 = record {
  modules = 0 ∷ [];
  variables = beyond_2_x ∷ [];
  bodies = (assign (at 32 0) integer (whole (own beyond_2_x)) (binary (at
      37 0) minus integer (binary (at 37 0) plus integer (constant (at 37 0) integer (pos 2147483647)) (constant (at 50 0) integer (pos 1)))
      (constant (at 54 0) integer (pos 1)))) ∷ [];
}

-- module m; var a: array 1:1 of integer; begin a[2] := 1 / 0 end m.
abbrev index_traps_1_a : Variable
index_traps_1_a = variable (codes "a") (array (writing 0 0) (pos 1) (pos 1) (simple integer)) 0 0

abbrev pub index_traps_1 : Program
index_traps_1 = record {
  modules = 0 ∷ [];
  variables = index_traps_1_a ∷ [];
  bodies = (assign (at 45 0) integer (element (at 45 0) (whole
      (own index_traps_1_a)) (writing 0 0) (pos 1) (pos 1) (simple integer) (constant (at 47 0) integer (pos 2))) (binary (at 53 0) over
      integer (constant (at 53 0) integer (pos 1)) (constant (at 57 0) integer (pos 0)))) ∷ [];
}

-- module m; var a: array 1:1 of integer; begin a[a[0]] := 1 end m.
abbrev index_traps_2_a : Variable
index_traps_2_a = variable (codes "a") (array (writing 0 0) (pos 1) (pos 1) (simple integer)) 0 0

abbrev pub index_traps_2 : Program
index_traps_2 = record {
  modules = 0 ∷ [];
  variables = index_traps_2_a ∷ [];
  bodies = (assign (at 45 0) integer (element (at 45 0) (whole
      (own index_traps_2_a)) (writing 0 0) (pos 1) (pos 1) (simple integer) (value (at 47 0) integer (element (at 47 0) (whole (own
      index_traps_2_a)) (writing 0 0) (pos 1) (pos 1) (simple integer) (constant (at 49 0) integer (pos 0))))) (constant (at 56 0) integer
      (pos 1))) ∷ [];
}

-- module m; var x: integer; begin x := 2147483647 * 2 / 0 end m.
abbrev first_trap_x : Variable
first_trap_x = variable (codes "x") (simple integer) 0 0

abbrev pub first_trap : Program
first_trap = record {
  modules = 0 ∷ [];
  variables = first_trap_x ∷ [];
  bodies = (assign (at 32 0) integer (whole (own first_trap_x)) (binary
      (at 37 0) over integer (binary (at 37 0) times integer (constant (at 37 0) integer (pos 2147483647)) (constant (at 50 0) integer (pos
      2))) (constant (at 54 0) integer (pos 0)))) ∷ [];
}

-- module m; var b: Boolean; begin b := b end m.
abbrev never_foreign_b : Variable
never_foreign_b = variable (codes "b") (simple boolean) 0 0

abbrev pub never_foreign : Program
never_foreign = record {
  modules = 0 ∷ [];
  variables = never_foreign_b ∷ [];
  bodies = (assign (at 32 0) boolean (whole (own
      never_foreign_b)) (value (at 37 0) boolean (whole (own never_foreign_b)))) ∷ [];
}

-- module m; const l = -2; var a: array l:-1 of char; begin a[-2] := 1C end m.
abbrev signed_index_a : Variable
signed_index_a = variable (codes "a") (array (writing 0 0) (negsuc 1) (negsuc 0) (simple char)) 0 0

abbrev pub signed_index : Program
signed_index = record {
  modules = 0 ∷ [];
  variables = signed_index_a ∷ [];
  bodies = (assign (at 57 0) char (element (at 57 0) (whole (own
      signed_index_a)) (writing 0 0) (negsuc 1) (negsuc 0) (simple char) (unary (at 59 0) minus_sign (constant (at 60 0) integer (pos 2))))
      (constant (at 66 0) char (pos 1))) ∷ [];
}

-- module m; procedure p; var a: array 1:1 of char; begin a[1] := 0C end p; begin p end m.
abbrev array_in_procedure_a : Variable
array_in_procedure_a = variable (codes "a") (array (writing 0 0) (pos 1) (pos 1) (simple char)) 0 0

abbrev array_in_procedure_p_called : Procedure
array_in_procedure_p_called = procedure 0 [] (array_in_procedure_a ∷ []) (assign (at 55 0) char (element (at 55 0) (whole (own
    array_in_procedure_a)) (writing 0 0) (pos 1) (pos 1) (simple char) (constant (at 57 0) integer (pos 1))) (constant (at 63 0) char (pos
    0)))

abbrev pub array_in_procedure : Program
array_in_procedure = record {
  modules = 0 ∷ [];
  variables = array_in_procedure_a ∷ [];
  bodies = (call (at 79 0) array_in_procedure_p_called
      no_more) ∷ [];
}

-- module m; var a: array 1:1 of char; module i; use a; begin a[1] := 1C end i; end m.
abbrev inner_module_opens_a : Variable
inner_module_opens_a = variable (codes "a") (array (writing 0 0) (pos 1) (pos 1) (simple char)) 0 0

abbrev pub inner_module_opens : Program
inner_module_opens = record {
  modules = 0 ∷ 0 ∷ [];
  variables = inner_module_opens_a ∷ [];
  bodies = (assign (at 59 1) char (element (at 59
      1) (whole (own inner_module_opens_a)) (writing 0 0) (pos 1) (pos 1) (simple char) (constant (at 61 1) integer (pos 1))) (constant (at 67
      1) char (pos 1))) ∷ skip ∷ [];
}

-- module m; type t = record f: char end; module n; define u; use t; type u = t; end n; var a: u; begin a.f := 0C end m.
abbrev record_in_its_module_a : Variable
record_in_its_module_a = variable (codes "a") (record_of (writing 0 0) (field_and (simple char) no_field)) 0 0

abbrev pub record_in_its_module : Program
record_in_its_module = record {
  modules = 0 ∷ 0 ∷ [];
  variables = record_in_its_module_a ∷ [];
  bodies = skip ∷ (assign (at 101 0) char (part
      (at 101 0) (whole (own record_in_its_module_a)) (writing 0 0) (field_and (simple char) no_field) 0) (constant (at 108 0) char (pos 0)))
      ∷ [];
}

-- module m; module n; define t, v; type t = (one, two); var v: t; end n; var w: t; b: Boolean; begin w := v; b := w = v end m.
abbrev constants_of_a_hidden_type_v : Variable
constants_of_a_hidden_type_v = variable (codes "v") (simple (enumeration 0 1)) 0 1

abbrev constants_of_a_hidden_type_w : Variable
constants_of_a_hidden_type_w = variable (codes "w") (simple (enumeration 0 1)) 1 0

abbrev constants_of_a_hidden_type_b : Variable
constants_of_a_hidden_type_b = variable (codes "b") (simple boolean) 2 0

abbrev pub constants_of_a_hidden_type : Program
constants_of_a_hidden_type = record {
  modules = 0 ∷ 0 ∷ [];
  variables = constants_of_a_hidden_type_v ∷ constants_of_a_hidden_type_w ∷
      constants_of_a_hidden_type_b ∷ [];
  bodies = skip ∷ (seq (assign (at 99 0) (enumeration 0 1) (whole (own constants_of_a_hidden_type_w))
      (value (at 104 0) (enumeration 0 1) (whole (own constants_of_a_hidden_type_v)))) (assign (at 107 0) boolean (whole (own
      constants_of_a_hidden_type_b)) (binary (at 112 0) eq (enumeration 0 1) (value (at 112 0) (enumeration 0 1) (whole (own
      constants_of_a_hidden_type_w))) (value (at 116 0) (enumeration 0 1) (whole (own constants_of_a_hidden_type_v)))))) ∷ [];
}

-- module m; var a: integer; begin a := 5; a := 1 / 0 end m.
abbrev trapped_counts_a : Variable
trapped_counts_a = variable (codes "a") (simple integer) 0 0

abbrev pub trapped_counts : Program
trapped_counts = record {
  modules = 0 ∷ [];
  variables = trapped_counts_a ∷ [];
  bodies = (seq (assign (at 32 0) integer (whole (own
      trapped_counts_a)) (constant (at 37 0) integer (pos 5))) (assign (at 40 0) integer (whole (own trapped_counts_a)) (binary (at 45 0) over
      integer (constant (at 45 0) integer (pos 1)) (constant (at 49 0) integer (pos 0))))) ∷ [];
}

pub record TrapsWorked : Type 0 where
  pub divisions_1_runs : tells nobody 100 divisions_1 ≡ (
    (take, 42, 2) ∷ (op, 41, 2) ∷ (take, 58, 3) ∷ (op, 40, 2) ∷ (store, 35, 0) ∷ (
      take,
      68,
      2,
    ) ∷ (op, 67, 2) ∷ (take, 75, 3) ∷ (op, 66, 2) ∷ (store, 61, 0) ∷ [],
    finished,
    (negsuc 1073741823) ∷ (pos 1) ∷ [],
  )
  pub divisions_1_fits : well_formed divisions_1 ≡ true
  pub divisions_2_runs : tells nobody 100 divisions_2 ≡ (
    (take, 37, 2) ∷ (take, 43, 3) ∷ (op, 42, 3) ∷ (op, 37, 2) ∷ (store, 32, 0) ∷ [],
    finished,
    (negsuc 2) ∷ [],
  )
  pub divisions_2_fits : well_formed divisions_2 ≡ true
  pub divisions_3_runs : tells nobody 100 divisions_3 ≡ (
    (take, 37, 2) ∷ (take, 45, 3) ∷ (op, 44, 3) ∷ (op, 37, 2) ∷ [],
    trapped Divisor 37,
    (pos 0) ∷ [],
  )
  pub divisions_3_fits : well_formed divisions_3 ≡ true
  pub beyond_1_runs : tells nobody 100 beyond_1 ≡ (
    (take, 38, 2) ∷ (op, 37, 2) ∷ (take, 51, 3) ∷ (op, 37, 2) ∷ [],
    trapped Beyond 37,
    (pos
        0) ∷ [],
  )
  pub beyond_1_fits : well_formed beyond_1 ≡ true
  pub beyond_2_runs : tells nobody 100 beyond_2 ≡ ((take, 37, 2) ∷ (take, 50, 3) ∷ (op, 37, 2) ∷ [], trapped Beyond 37, (pos 0) ∷ [])
  pub beyond_2_fits : well_formed beyond_2 ≡ true
  pub index_traps_1_runs : tells nobody 100 index_traps_1 ≡ ((take, 47, 2) ∷ (index, 45, 1) ∷ [], trapped Index 45, (pos 0) ∷ [])
  pub index_traps_1_fits : well_formed index_traps_1 ≡ true
  pub index_traps_2_runs : tells nobody 100 index_traps_2 ≡ ((take, 49, 3) ∷ (index, 47, 1) ∷ [], trapped Index 47, (pos 0) ∷ [])
  pub index_traps_2_fits : well_formed index_traps_2 ≡ true
  pub first_trap_runs : tells nobody 100 first_trap ≡ ((take, 37, 2) ∷ (take, 50, 3) ∷ (op, 37, 2) ∷ [], trapped Beyond 37, (pos 0) ∷ [])
  pub first_trap_fits : well_formed first_trap ≡ true
  pub never_foreign_runs : tells nobody 100 never_foreign ≡ ((take, 37, 2) ∷ (store, 32, 0) ∷ [], finished, (pos 0) ∷ [])
  pub never_foreign_fits : well_formed never_foreign ≡ true
  pub signed_index_runs : tells nobody 100 signed_index ≡ (
    (take, 60, 2) ∷ (op, 59, 2) ∷ (index, 57, 1) ∷ (take, 66, 2) ∷ (store, 57, 0) ∷
        [],
    finished,
    (pos 1) ∷ (pos 0) ∷ [],
  )
  pub signed_index_fits : well_formed signed_index ≡ true
  pub array_in_procedure_runs : tells nobody 100 array_in_procedure ≡ (
    (entry, 79, 1) ∷ (take, 57, 3) ∷ (index, 55, 2) ∷ (take, 63, 3) ∷
        (store, 55, 1) ∷ (leave, 79, 0) ∷ [],
    finished,
    (pos 0) ∷ [],
  )
  pub array_in_procedure_fits : well_formed array_in_procedure ≡ true
  pub inner_module_opens_runs : tells nobody 100 inner_module_opens ≡ (
    (take, 61, 2) ∷ (index, 59, 1) ∷ (take, 67, 2) ∷ (store, 59, 0) ∷ [],
    finished,
    (pos 1) ∷ [],
  )
  pub inner_module_opens_fits : well_formed inner_module_opens ≡ true
  pub record_in_its_module_runs : tells nobody 100 record_in_its_module ≡ ((take, 108, 2) ∷ (store, 101, 0) ∷ [], finished, (pos 0) ∷ [])
  pub record_in_its_module_fits : well_formed record_in_its_module ≡ true
  pub constants_of_a_hidden_type_runs : tells nobody 100 constants_of_a_hidden_type ≡ (
    (take, 104, 2) ∷ (store, 99, 0) ∷ (take, 112, 2) ∷
        (take, 116, 3) ∷ (op, 112, 2) ∷ (store, 107, 0) ∷ [],
    finished,
    (pos 0) ∷ (pos 0) ∷ (pos 1) ∷ [],
  )
  pub constants_of_a_hidden_type_fits : well_formed constants_of_a_hidden_type ≡ true
  pub trapped_counts_runs : line_of (tells nobody 100 trapped_counts) ≡ (5, trapped Divisor 45, (pos 5) ∷ [])
  pub trapped_counts_fits : well_formed trapped_counts ≡ true
