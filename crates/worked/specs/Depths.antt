-- Worked examples: places and depths of actions. Each program has the places of its text.
use Rattle.std.specs.Prelude.{◌≡◌, true, [], ◌∷◌, pos, negsuc, codes}
use Rattle.fault.specs.declared.Trap.TheVariants.{Index}
use Rattle.program.specs.Trees.{Variable, Program}
use Rattle.program.specs.Types.Simple.{integer, boolean}
use Rattle.program.specs.Types.Shape.{simple, array, record_of}
use Rattle.program.specs.Types.Fields.{no_field, field_and}
use Rattle.program.specs.Trees.Sign.{plus_sign, minus_sign}
use Rattle.program.specs.Trees.Operator.{plus, over, div, xor, eq}
use Rattle.program.specs.Trees.Junction.{and, or}
use Rattle.program.specs.Trees.Name.{own}
use Rattle.program.specs.Trees.Expr.{constant, value, unary, binary, junction}
use Rattle.program.specs.Trees.Designator.{whole, element, part}
use Rattle.program.specs.Trees.Stmt.{skip, seq, assign, if, while, repeat}
use Rattle.program.specs.Trees.Arms.{otherwise, arm}
use Rattle.program.specs.Decided.{well_formed}
use Rattle.meaning.specs.Actions.State.{finished, trapped}
use Rattle.meaning.specs.Running.{tells, at, variable, writing}
use Rattle.meaning.specs.Running.Kind.{take, index, op, test, store, turn}
use Rattle.meaning.specs.Running.Beside.{nobody}

-- module m; const c = -5; var x: integer; r: record a: integer end; begin x := +r.a; x := (c) end m.
abbrev actions_x : Variable
actions_x = variable (codes "x") (simple integer) 0 0

abbrev actions_r : Variable
actions_r = variable (codes "r") (record_of (writing 0 0) (field_and (simple integer) no_field)) 1 0

abbrev pub actions : Program
actions = record {
  modules = 0 ∷ [];
  variables = actions_x ∷ actions_r ∷ [];
  bodies = (seq (assign (at 72 0) integer (whole (own actions_x))
      (unary (at 77 0) plus_sign (value (at 78 0) integer (part (at 78 0) (whole (own actions_r)) (writing 0 0) (field_and (simple integer)
      no_field) 0)))) (assign (at 83 0) integer (whole (own actions_x)) (constant (at 89 0) integer (negsuc 4)))) ∷ [];
}

-- module m; var a: array 1:2 of array 1:2 of integer; begin if (1) = a[2, 3] then end end m.
abbrev places_a : Variable
places_a = variable (codes "a") (array (writing 1 0) (pos 1) (pos 2) (array (writing 0 0) (pos 1) (pos 2) (simple integer))) 0 0

abbrev pub places : Program
places = record {
  modules = 0 ∷ [];
  variables = places_a ∷ [];
  bodies = (if (arm (at 61 0) (binary (at 61 0) eq integer (constant (at 62 0)
      integer (pos 1)) (value (at 67 0) integer (element (at 67 0) (element (at 67 0) (whole (own places_a)) (writing 1 0) (pos 1) (pos 2)
      (array (writing 0 0) (pos 1) (pos 2) (simple integer)) (constant (at 69 0) integer (pos 2))) (writing 0 0) (pos 1) (pos 2) (simple
      integer) (constant (at 72 0) integer (pos 3))))) skip (otherwise skip))) ∷ [];
}

-- module m; var x: integer; begin x := 1 + 2 end m.
abbrev depth_after_x : Variable
depth_after_x = variable (codes "x") (simple integer) 0 0

abbrev pub depth_after : Program
depth_after = record {
  modules = 0 ∷ [];
  variables = depth_after_x ∷ [];
  bodies = (assign (at 32 0) integer (whole (own depth_after_x))
      (binary (at 37 0) plus integer (constant (at 37 0) integer (pos 1)) (constant (at 41 0) integer (pos 2)))) ∷ [];
}

-- module m; var a: array 0:1 of integer; begin a[1] := 4 end m.
abbrev target_waits_1_a : Variable
target_waits_1_a = variable (codes "a") (array (writing 0 0) (pos 0) (pos 1) (simple integer)) 0 0

abbrev pub target_waits_1 : Program
target_waits_1 = record {
  modules = 0 ∷ [];
  variables = target_waits_1_a ∷ [];
  bodies = (assign (at 45 0) integer (element (at 45 0) (whole
      (own target_waits_1_a)) (writing 0 0) (pos 0) (pos 1) (simple integer) (constant (at 47 0) integer (pos 1))) (constant (at 53 0) integer
      (pos 4))) ∷ [];
}

-- module m; var a: array 0:1 of array 0:1 of integer; begin a[1, 0] := 4 end m.
abbrev target_waits_2_a : Variable
target_waits_2_a = variable (codes "a") (array (writing 1 0) (pos 0) (pos 1) (array (writing 0 0) (pos 0) (pos 1) (simple integer))) 0 0

abbrev pub target_waits_2 : Program
target_waits_2 = record {
  modules = 0 ∷ [];
  variables = target_waits_2_a ∷ [];
  bodies = (assign (at 58 0) integer (element (at 58 0)
      (element (at 58 0) (whole (own target_waits_2_a)) (writing 1 0) (pos 0) (pos 1) (array (writing 0 0) (pos 0) (pos 1) (simple integer))
      (constant (at 60 0) integer (pos 1))) (writing 0 0) (pos 0) (pos 1) (simple integer) (constant (at 63 0) integer (pos 0))) (constant (at
      69 0) integer (pos 4))) ∷ [];
}

-- module m; var a: array 0:1 of integer; x: integer; begin x := a[1] end m.
abbrev variable_in_expression_1_a : Variable
variable_in_expression_1_a = variable (codes "a") (array (writing 0 0) (pos 0) (pos 1) (simple integer)) 0 0

abbrev variable_in_expression_1_x : Variable
variable_in_expression_1_x = variable (codes "x") (simple integer) 2 0

abbrev pub variable_in_expression_1 : Program
variable_in_expression_1 = record {
  modules = 0 ∷ [];
  variables = variable_in_expression_1_a ∷ variable_in_expression_1_x ∷ [];
  bodies =
      (assign (at 57 0) integer (whole (own variable_in_expression_1_x)) (value (at 62 0) integer (element (at 62 0) (whole (own
      variable_in_expression_1_a)) (writing 0 0) (pos 0) (pos 1) (simple integer) (constant (at 64 0) integer (pos 1))))) ∷ [];
}

-- module m; var a: array 0:1 of array 0:1 of integer; x: integer; begin x := a[1, 0] end m.
abbrev variable_in_expression_2_a : Variable
variable_in_expression_2_a = variable (codes "a") (array (writing 1 0) (pos 0) (pos 1) (array (writing 0 0) (pos 0) (pos 1) (simple
    integer))) 0 0

abbrev variable_in_expression_2_x : Variable
variable_in_expression_2_x = variable (codes "x") (simple integer) 4 0

abbrev pub variable_in_expression_2 : Program
variable_in_expression_2 = record {
  modules = 0 ∷ [];
  variables = variable_in_expression_2_a ∷ variable_in_expression_2_x ∷ [];
  bodies =
      (assign (at 70 0) integer (whole (own variable_in_expression_2_x)) (value (at 75 0) integer (element (at 75 0) (element (at 75 0) (whole
      (own variable_in_expression_2_a)) (writing 1 0) (pos 0) (pos 1) (array (writing 0 0) (pos 0) (pos 1) (simple integer)) (constant (at 77
      0) integer (pos 1))) (writing 0 0) (pos 0) (pos 1) (simple integer) (constant (at 80 0) integer (pos 0))))) ∷ [];
}

-- module m; begin if false then elsif true then end end m.
abbrev pub around_an_action_1 : Program
around_an_action_1 = record {
  modules = 0 ∷ [];
  variables = [];
  bodies = (if (arm (at 19 0) (constant (at 19 0) boolean (pos 0)) skip (arm
      (at 36 0) (constant (at 36 0) boolean (pos 1)) skip (otherwise skip)))) ∷ [];
}

-- module m; begin while false do end end m.
abbrev pub around_an_action_2 : Program
around_an_action_2 = record {
  modules = 0 ∷ [];
  variables = [];
  bodies = (while (at 16 0) (at 22 0) (constant (at 22 0) boolean (pos 0))
      skip) ∷ [];
}

-- module m; begin repeat until true end m.
abbrev pub around_an_action_3 : Program
around_an_action_3 = record {
  modules = 0 ∷ [];
  variables = [];
  bodies = (repeat (at 16 0) skip (at 29 0) (constant (at 29 0) boolean (pos
      1))) ∷ [];
}

-- module m; var b: Boolean; begin b := true and false end m.
abbrev and_or_1_b : Variable
and_or_1_b = variable (codes "b") (simple boolean) 0 0

abbrev pub and_or_1 : Program
and_or_1 = record {
  modules = 0 ∷ [];
  variables = and_or_1_b ∷ [];
  bodies = (assign (at 32 0) boolean (whole (own and_or_1_b)) (junction (at
      37 0) and (constant (at 37 0) boolean (pos 1)) (constant (at 46 0) boolean (pos 0)))) ∷ [];
}

-- module m; var b: Boolean; begin b := false and true and true end m.
abbrev and_or_2_b : Variable
and_or_2_b = variable (codes "b") (simple boolean) 0 0

abbrev pub and_or_2 : Program
and_or_2 = record {
  modules = 0 ∷ [];
  variables = and_or_2_b ∷ [];
  bodies = (assign (at 32 0) boolean (whole (own and_or_2_b)) (junction (at
      37 0) and (junction (at 37 0) and (constant (at 37 0) boolean (pos 0)) (constant (at 47 0) boolean (pos 1))) (constant (at 56 0) boolean
      (pos 1)))) ∷ [];
}

-- module m; var b: Boolean; begin b := true xor (true or (1 / 0 = 1)) end m.
abbrev and_or_3_b : Variable
and_or_3_b = variable (codes "b") (simple boolean) 0 0

abbrev pub and_or_3 : Program
and_or_3 = record {
  modules = 0 ∷ [];
  variables = and_or_3_b ∷ [];
  bodies = (assign (at 32 0) boolean (whole (own and_or_3_b)) (binary (at
      37 0) xor boolean (constant (at 37 0) boolean (pos 1)) (junction (at 47 0) or (constant (at 47 0) boolean (pos 1)) (binary (at 56 0) eq
      integer (binary (at 56 0) over integer (constant (at 56 0) integer (pos 1)) (constant (at 60 0) integer (pos 0))) (constant (at 64 0)
      integer (pos 1)))))) ∷ [];
}

-- module m; var x: integer; begin x := -15 div 4 + 1 end m.
abbrev sign_x : Variable
sign_x = variable (codes "x") (simple integer) 0 0

abbrev pub sign : Program
sign = record {
  modules = 0 ∷ [];
  variables = sign_x ∷ [];
  bodies = (assign (at 32 0) integer (whole (own sign_x)) (binary (at 37 0) plus
      integer (unary (at 37 0) minus_sign (binary (at 38 0) div integer (constant (at 38 0) integer (pos 15)) (constant (at 45 0) integer (pos
      4)))) (constant (at 49 0) integer (pos 1)))) ∷ [];
}

pub record DepthsWorked : Type 0 where
  pub actions_runs : tells nobody 100 actions ≡ (
    (take, 78, 2) ∷ (op, 77, 2) ∷ (store, 72, 0) ∷ (take, 89, 2) ∷ (store, 83, 0) ∷ [],
    finished,
    (negsuc 4) ∷ (pos 0) ∷ [],
  )
  pub actions_fits : well_formed actions ≡ true
  pub places_runs : tells nobody 100 places ≡ (
    (take, 62, 2) ∷ (take, 69, 4) ∷ (index, 67, 3) ∷ (take, 72, 4) ∷ (index, 67, 2) ∷ [],
    trapped
        Index 67,
    (pos 0) ∷ (pos 0) ∷ (pos 0) ∷ (pos 0) ∷ [],
  )
  pub places_fits : well_formed places ≡ true
  pub depth_after_runs : tells nobody 100 depth_after ≡ (
    (take, 37, 2) ∷ (take, 41, 3) ∷ (op, 37, 2) ∷ (store, 32, 0) ∷ [],
    finished,
    (pos
        3) ∷ [],
  )
  pub depth_after_fits : well_formed depth_after ≡ true
  pub target_waits_1_runs : tells nobody 100 target_waits_1 ≡ (
    (take, 47, 2) ∷ (index, 45, 1) ∷ (take, 53, 2) ∷ (store, 45, 0) ∷ [],
    finished,
    (pos 0) ∷ (pos 4) ∷ [],
  )
  pub target_waits_1_fits : well_formed target_waits_1 ≡ true
  pub target_waits_2_runs : tells nobody 100 target_waits_2 ≡ (
    (take, 60, 2) ∷ (index, 58, 1) ∷ (take, 63, 2) ∷ (index, 58, 1) ∷ (
      take,
      69,
      2,
    ) ∷ (store, 58, 0) ∷ [],
    finished,
    (pos 0) ∷ (pos 0) ∷ (pos 4) ∷ (pos 0) ∷ [],
  )
  pub target_waits_2_fits : well_formed target_waits_2 ≡ true
  pub variable_in_expression_1_runs : tells nobody 100 variable_in_expression_1 ≡ (
    (take, 64, 3) ∷ (index, 62, 1) ∷ (take, 62, 2) ∷ (
      store,
      57,
      0,
    ) ∷ [],
    finished,
    (pos 0) ∷ (pos 0) ∷ (pos 0) ∷ [],
  )
  pub variable_in_expression_1_fits : well_formed variable_in_expression_1 ≡ true
  pub variable_in_expression_2_runs : tells nobody 100 variable_in_expression_2 ≡ (
    (take, 77, 3) ∷ (index, 75, 2) ∷ (take, 80, 3) ∷ (
      index,
      75,
      1,
    ) ∷ (take, 75, 2) ∷ (store, 70, 0) ∷ [],
    finished,
    (pos 0) ∷ (pos 0) ∷ (pos 0) ∷ (pos 0) ∷ (pos 0) ∷ [],
  )
  pub variable_in_expression_2_fits : well_formed variable_in_expression_2 ≡ true
  pub around_an_action_1_runs : tells nobody 100 around_an_action_1 ≡ (
    (take, 19, 2) ∷ (test, 19, 1) ∷ (take, 36, 2) ∷ (test, 36, 1) ∷ [],
    finished,
    [],
  )
  pub around_an_action_1_fits : well_formed around_an_action_1 ≡ true
  pub around_an_action_2_runs : tells nobody 100 around_an_action_2 ≡ ((turn, 16, 1) ∷ (take, 22, 2) ∷ (test, 22, 1) ∷ [], finished, [])
  pub around_an_action_2_fits : well_formed around_an_action_2 ≡ true
  pub around_an_action_3_runs : tells nobody 100 around_an_action_3 ≡ ((turn, 16, 1) ∷ (take, 29, 2) ∷ (test, 29, 1) ∷ [], finished, [])
  pub around_an_action_3_fits : well_formed around_an_action_3 ≡ true
  pub and_or_1_runs : tells nobody 100 and_or_1 ≡ (
    (take, 37, 2) ∷ (op, 37, 1) ∷ (take, 46, 2) ∷ (store, 32, 0) ∷ [],
    finished,
    (pos 0) ∷
        [],
  )
  pub and_or_1_fits : well_formed and_or_1 ≡ true
  pub and_or_2_runs : tells nobody 100 and_or_2 ≡ ((take, 37, 2) ∷ (op, 37, 2) ∷ (op, 37, 2) ∷ (store, 32, 0) ∷ [], finished, (pos 0) ∷ [])
  pub and_or_2_fits : well_formed and_or_2 ≡ true
  pub and_or_3_runs : tells nobody 100 and_or_3 ≡ (
    (take, 37, 2) ∷ (take, 47, 3) ∷ (op, 47, 3) ∷ (op, 37, 2) ∷ (store, 32, 0) ∷ [],
    finished,
    (pos 0) ∷ [],
  )
  pub and_or_3_fits : well_formed and_or_3 ≡ true
  pub sign_runs : tells nobody 100 sign ≡ (
    (take, 38, 2) ∷ (take, 45, 3) ∷ (op, 38, 2) ∷ (op, 37, 2) ∷ (take, 49, 3) ∷ (op, 37, 2) ∷ (
      store,
      32,
      0,
    ) ∷ [],
    finished,
    (negsuc 1) ∷ [],
  )
  pub sign_fits : well_formed sign ≡ true
