-- Worked examples: the order of bodies, tests and turns. Each program has the places of its text.
use Rattle.std.specs.Prelude.{◌≡◌, true, [], ◌∷◌, pos, codes}
use Rattle.program.specs.Trees.{Variable, Program}
use Rattle.program.specs.Types.Simple.{integer, boolean}
use Rattle.program.specs.Types.Shape.{simple}
use Rattle.program.specs.Trees.Sign.{not_sign}
use Rattle.program.specs.Trees.Operator.{plus, lt, gt}
use Rattle.program.specs.Trees.Name.{own}
use Rattle.program.specs.Trees.Expr.{constant, value, unary, binary}
use Rattle.program.specs.Trees.Designator.{whole}
use Rattle.program.specs.Trees.Stmt.{skip, assign, if, while, repeat, loop}
use Rattle.program.specs.Trees.Arms.{otherwise, arm}
use Rattle.program.specs.Trees.Parts.{ends, exits}
use Rattle.program.specs.Decided.{well_formed}
use Rattle.meaning.specs.Actions.State.{ready, finished}
use Rattle.meaning.specs.Running.{tells, line_of, at, variable}
use Rattle.meaning.specs.Running.Kind.{take, op, test, store, turn}
use Rattle.meaning.specs.Running.Beside.{nobody}

-- module m; var i: integer; begin while i < 1 do i := i + 1 end end m.
abbrev turns_1_i : Variable
turns_1_i = variable (codes "i") (simple integer) 0 0

abbrev pub turns_1 : Program
turns_1 = record {
  modules = 0 ∷ [];
  variables = turns_1_i ∷ [];
  bodies = (while (at 32 0) (at 38 0) (binary (at 38 0) lt integer (value (at
      38 0) integer (whole (own turns_1_i))) (constant (at 42 0) integer (pos 1))) (assign (at 47 0) integer (whole (own turns_1_i)) (binary
      (at 52 0) plus integer (value (at 52 0) integer (whole (own turns_1_i))) (constant (at 56 0) integer (pos 1))))) ∷ [];
}

-- module m; var b: Boolean; begin repeat b := not b until not b end m.
abbrev turns_2_b : Variable
turns_2_b = variable (codes "b") (simple boolean) 0 0

abbrev pub turns_2 : Program
turns_2 = record {
  modules = 0 ∷ [];
  variables = turns_2_b ∷ [];
  bodies = (repeat (at 32 0) (assign (at 39 0) boolean (whole (own
      turns_2_b)) (unary (at 44 0) not_sign (value (at 48 0) boolean (whole (own turns_2_b))))) (at 56 0) (unary (at 56 0) not_sign (value (at
      60 0) boolean (whole (own turns_2_b))))) ∷ [];
}

-- module m; begin loop loop when true exit end when true exit end end m.
abbrev pub exits_1 : Program
exits_1 = record {
  modules = 0 ∷ [];
  variables = [];
  bodies = (loop (at 16 0) (exits (loop (at 21 0) (exits skip (at 31 0) (constant (at 31
      0) boolean (pos 1)) skip (ends skip))) (at 50 0) (constant (at 50 0) boolean (pos 1)) skip (ends skip))) ∷ [];
}

-- module m; var i: integer; begin loop i := i + 1 when i > 1 do i := 7 exit end end m.
abbrev exits_2_i : Variable
exits_2_i = variable (codes "i") (simple integer) 0 0

abbrev pub exits_2 : Program
exits_2 = record {
  modules = 0 ∷ [];
  variables = exits_2_i ∷ [];
  bodies = (loop (at 32 0) (exits (assign (at 37 0) integer (whole (own
      exits_2_i)) (binary (at 42 0) plus integer (value (at 42 0) integer (whole (own exits_2_i))) (constant (at 46 0) integer (pos 1)))) (at
      53 0) (binary (at 53 0) gt integer (value (at 53 0) integer (whole (own exits_2_i))) (constant (at 57 0) integer (pos 1))) (assign (at
      62 0) integer (whole (own exits_2_i)) (constant (at 67 0) integer (pos 7))) (ends skip))) ∷ [];
}

-- module m; var x: integer; begin if false then x := 1 elsif true then x := 2 elsif true then x := 3 else x := 4 end end m.
abbrev arms_x : Variable
arms_x = variable (codes "x") (simple integer) 0 0

abbrev pub arms : Program
arms = record {
  modules = 0 ∷ [];
  variables = arms_x ∷ [];
  bodies = (if (arm (at 35 0) (constant (at 35 0) boolean (pos 0)) (assign (at 46
      0) integer (whole (own arms_x)) (constant (at 51 0) integer (pos 1))) (arm (at 59 0) (constant (at 59 0) boolean (pos 1)) (assign (at 69
      0) integer (whole (own arms_x)) (constant (at 74 0) integer (pos 2))) (arm (at 82 0) (constant (at 82 0) boolean (pos 1)) (assign (at 92
      0) integer (whole (own arms_x)) (constant (at 97 0) integer (pos 3))) (otherwise (assign (at 104 0) integer (whole (own arms_x))
      (constant (at 109 0) integer (pos 4)))))))) ∷ [];
}

-- module m; module a; define x; var x: integer; module b; define y; var y: integer; begin y := 1 end b; begin x := y + 1 end a; module c;
-- use x; var z: integer; begin z := x end c; end m.
abbrev order_of_bodies_x : Variable
order_of_bodies_x = variable (codes "x") (simple integer) 0 1

abbrev order_of_bodies_y : Variable
order_of_bodies_y = variable (codes "y") (simple integer) 1 2

abbrev order_of_bodies_z : Variable
order_of_bodies_z = variable (codes "z") (simple integer) 2 3

abbrev pub order_of_bodies : Program
order_of_bodies = record {
  modules = 0 ∷ 0 ∷ 1 ∷ 0 ∷ [];
  variables = order_of_bodies_x ∷ order_of_bodies_y ∷ order_of_bodies_z ∷ [];
  bodies
      = (assign (at 88 2) integer (whole (own order_of_bodies_y)) (constant (at 93 2) integer (pos 1))) ∷ (assign (at 108 1) integer (whole
      (own order_of_bodies_x)) (binary (at 113 1) plus integer (value (at 113 1) integer (whole (own order_of_bodies_y))) (constant (at 117 1)
      integer (pos 1)))) ∷ (assign (at 165 3) integer (whole (own order_of_bodies_z)) (value (at 170 3) integer (whole (own
      order_of_bodies_x)))) ∷ skip ∷ [];
}

-- module m; begin if false then end end m.
abbrev pub finished_at_once_1 : Program
finished_at_once_1 = record {
  modules = 0 ∷ [];
  variables = [];
  bodies = (if (arm (at 19 0) (constant (at 19 0) boolean (pos 0)) skip
      (otherwise skip))) ∷ [];
}

-- module m; var a: integer; begin a := 4 end m.
abbrev hundred_steps_1_a : Variable
hundred_steps_1_a = variable (codes "a") (simple integer) 0 0

abbrev pub hundred_steps_1 : Program
hundred_steps_1 = record {
  modules = 0 ∷ [];
  variables = hundred_steps_1_a ∷ [];
  bodies = (assign (at 32 0) integer (whole (own
      hundred_steps_1_a)) (constant (at 37 0) integer (pos 4))) ∷ [];
}

-- module m; end m.
abbrev pub hundred_steps_2 : Program
hundred_steps_2 = record { modules = 0 ∷ []; variables = []; bodies = skip ∷ [] }

-- module m; var a: integer; begin loop a := a + 1 end end m.
abbrev hundred_steps_3_a : Variable
hundred_steps_3_a = variable (codes "a") (simple integer) 0 0

abbrev pub hundred_steps_3 : Program
hundred_steps_3 = record {
  modules = 0 ∷ [];
  variables = hundred_steps_3_a ∷ [];
  bodies = (loop (at 32 0) (ends (assign (at 37 0) integer
      (whole (own hundred_steps_3_a)) (binary (at 42 0) plus integer (value (at 42 0) integer (whole (own hundred_steps_3_a))) (constant (at
      46 0) integer (pos 1)))))) ∷ [];
}

pub record FlowWorked : Type 0 where
  pub turns_1_runs : tells nobody 100 turns_1 ≡ (
    (turn, 32, 1) ∷ (take, 38, 2) ∷ (take, 42, 3) ∷ (op, 38, 2) ∷ (test, 38, 1) ∷ (take, 52, 3)
        ∷ (take, 56, 4) ∷ (op, 52, 3) ∷ (store, 47, 1) ∷ (turn, 32, 1) ∷ (take, 38, 2) ∷ (take, 42, 3) ∷ (op, 38, 2) ∷ (test, 38, 1) ∷ [],
    finished,
    (pos 1) ∷ [],
  )
  pub turns_1_fits : well_formed turns_1 ≡ true
  pub turns_2_runs : tells nobody 100 turns_2 ≡ (
    (turn, 32, 1) ∷ (take, 48, 3) ∷ (op, 44, 3) ∷ (store, 39, 1) ∷ (take, 60, 2) ∷ (op, 56, 2)
        ∷ (test, 56, 1) ∷ (turn, 32, 1) ∷ (take, 48, 3) ∷ (op, 44, 3) ∷ (store, 39, 1) ∷ (take, 60, 2) ∷ (op, 56, 2) ∷ (test, 56, 1) ∷ [],
    finished,
    (pos 0) ∷ [],
  )
  pub turns_2_fits : well_formed turns_2 ≡ true
  pub exits_1_runs : tells nobody 100 exits_1 ≡ (
    (turn, 16, 1) ∷ (turn, 21, 2) ∷ (take, 31, 3) ∷ (test, 31, 2) ∷ (take, 50, 2) ∷ (
      test,
      50,
      1,
    ) ∷ [],
    finished,
    [],
  )
  pub exits_1_fits : well_formed exits_1 ≡ true
  pub exits_2_runs : tells nobody 100 exits_2 ≡ (
    (turn, 32, 1) ∷ (take, 42, 3) ∷ (take, 46, 4) ∷ (op, 42, 3) ∷ (store, 37, 1) ∷ (
      take,
      53,
      2,
    ) ∷ (take, 57, 3) ∷ (op, 53, 2) ∷ (test, 53, 1) ∷ (turn, 32, 1) ∷ (take, 42, 3) ∷ (take, 46, 4) ∷ (op, 42, 3) ∷ (store, 37, 1) ∷
        (take, 53, 2) ∷ (take, 57, 3) ∷ (op, 53, 2) ∷ (test, 53, 1) ∷ (take, 67, 3) ∷ (store, 62, 1) ∷ [],
    finished,
    (pos 7) ∷ [],
  )
  pub exits_2_fits : well_formed exits_2 ≡ true
  pub arms_runs : tells nobody 100 arms ≡ (
    (take, 35, 2) ∷ (test, 35, 1) ∷ (take, 59, 2) ∷ (test, 59, 1) ∷ (take, 74, 3) ∷ (store, 69, 1) ∷
        [],
    finished,
    (pos 2) ∷ [],
  )
  pub arms_fits : well_formed arms ≡ true
  pub order_of_bodies_runs : tells nobody 100 order_of_bodies ≡ (
    (take, 93, 2) ∷ (store, 88, 0) ∷ (take, 113, 2) ∷ (take, 117, 3) ∷ (
      op,
      113,
      2,
    ) ∷ (store, 108, 0) ∷ (take, 170, 2) ∷ (store, 165, 0) ∷ [],
    finished,
    (pos 2) ∷ (pos 1) ∷ (pos 2) ∷ [],
  )
  pub order_of_bodies_fits : well_formed order_of_bodies ≡ true
  pub finished_at_once_1_runs : tells nobody 100 finished_at_once_1 ≡ ((take, 19, 2) ∷ (test, 19, 1) ∷ [], finished, [])
  pub finished_at_once_1_fits : well_formed finished_at_once_1 ≡ true
  pub hundred_steps_1_runs : line_of (tells nobody 100 hundred_steps_1) ≡ (2, finished, (pos 4) ∷ [])
  pub hundred_steps_1_fits : well_formed hundred_steps_1 ≡ true
  pub hundred_steps_2_runs : line_of (tells nobody 100 hundred_steps_2) ≡ (0, finished, [])
  pub hundred_steps_2_fits : well_formed hundred_steps_2 ≡ true
  pub hundred_steps_3_runs : line_of (tells nobody 100 hundred_steps_3) ≡ (100, ready, (pos 20) ∷ [])
  pub hundred_steps_3_fits : well_formed hundred_steps_3 ≡ true
