-- Programs that are not well-formed: each breaks one rule. Each has the places of its text.
use Rattle.std.specs.Prelude.{◌≡◌, false, [], ◌∷◌, pos, codes}
use Rattle.program.specs.Trees.{Variable, Procedure, Program}
use Rattle.program.specs.Types.Simple.{integer, boolean, char}
use Rattle.program.specs.Types.Shape.{simple, array, record_of}
use Rattle.program.specs.Types.Fields.{no_field, field_and}
use Rattle.program.specs.Trees.Sign.{not_sign}
use Rattle.program.specs.Trees.Name.{own, formal}
use Rattle.program.specs.Trees.Formal.{by_const, by_var}
use Rattle.program.specs.Trees.Expr.{constant, value, unary}
use Rattle.program.specs.Trees.Designator.{whole, element, part}
use Rattle.program.specs.Trees.Actuals.{no_more, a_value, a_variable}
use Rattle.program.specs.Trees.Stmt.{skip, assign, call}
use Rattle.program.specs.Trees.Procedure.{procedure}
use Rattle.program.specs.Decided.{well_formed}
use Rattle.meaning.specs.Running.{at, variable, const_formal, writing}

-- module m; module n; define a; var a: integer; end n; begin a := 1 end m.
abbrev changed_outside_a : Variable
changed_outside_a = variable (codes "a") (simple integer) 0 1

abbrev changed_outside : Program
changed_outside = record {
  modules = 0 ∷ 0 ∷ [];
  variables = changed_outside_a ∷ [];
  bodies = skip ∷ (assign (at 59 0) integer (whole (own
      changed_outside_a)) (constant (at 64 0) integer (pos 1))) ∷ [];
}

-- module m; module n; define a; var a: integer; end n; procedure p(var b: integer); begin b := 1 end p; begin p(a) end m.
abbrev lent_outside_a : Variable
lent_outside_a = variable (codes "a") (simple integer) 0 1

abbrev lent_outside_p_called : Procedure
lent_outside_p_called = procedure 0 (by_var (simple integer) ∷ []) [] (assign (at 88 0) integer (whole (formal 0)) (constant (at 93 0)
    integer (pos 1)))

abbrev lent_outside : Program
lent_outside = record {
  modules = 0 ∷ 0 ∷ [];
  variables = lent_outside_a ∷ [];
  bodies = skip ∷ (call (at 108 0) lent_outside_p_called
      (a_variable (whole (own lent_outside_a)) no_more)) ∷ [];
}

-- module m; module n; define a; type t = array 0:1 of integer; var a: t; end n; var x: integer; begin x := a[1] end m.
abbrev indexed_outside_a : Variable
indexed_outside_a = variable (codes "a") (array (writing 0 1) (pos 0) (pos 1) (simple integer)) 0 1

abbrev indexed_outside_x : Variable
indexed_outside_x = variable (codes "x") (simple integer) 2 0

abbrev indexed_outside : Program
indexed_outside = record {
  modules = 0 ∷ 0 ∷ [];
  variables = indexed_outside_a ∷ indexed_outside_x ∷ [];
  bodies = skip ∷ (assign (at 100 0)
      integer (whole (own indexed_outside_x)) (value (at 105 0) integer (element (at 105 0) (whole (own indexed_outside_a)) (writing 0 1) (pos
      0) (pos 1) (simple integer) (constant (at 107 0) integer (pos 1))))) ∷ [];
}

-- module m; module n; define a; var a: record f: integer end; end n; var x: integer; begin x := a.f end m.
abbrev selected_outside_a : Variable
selected_outside_a = variable (codes "a") (record_of (writing 0 1) (field_and (simple integer) no_field)) 0 1

abbrev selected_outside_x : Variable
selected_outside_x = variable (codes "x") (simple integer) 1 0

abbrev selected_outside : Program
selected_outside = record {
  modules = 0 ∷ 0 ∷ [];
  variables = selected_outside_a ∷ selected_outside_x ∷ [];
  bodies = skip ∷ (assign (at 89
      0) integer (whole (own selected_outside_x)) (value (at 94 0) integer (part (at 94 0) (whole (own selected_outside_a)) (writing 0 1)
      (field_and (simple integer) no_field) 0))) ∷ [];
}

-- module m; procedure p(a: integer); begin a := 1 end p; begin p(2) end m.
abbrev const_formal_stored_a : Variable
const_formal_stored_a = const_formal (codes "a") integer 0 0

abbrev const_formal_stored_p_called : Procedure
const_formal_stored_p_called = procedure 0 (by_const const_formal_stored_a integer ∷ []) [] (assign (at 41 0) integer (whole (own
    const_formal_stored_a)) (constant (at 46 0) integer (pos 1)))

abbrev const_formal_stored : Program
const_formal_stored = record {
  modules = 0 ∷ [];
  variables = const_formal_stored_a ∷ [];
  bodies = (call (at 61 0)
      const_formal_stored_p_called (a_value (constant (at 63 0) integer (pos 2)) no_more)) ∷ [];
}

-- module m; var x: integer; b: Boolean; begin x := b end m.
abbrev wrong_type_x : Variable
wrong_type_x = variable (codes "x") (simple integer) 0 0

abbrev wrong_type_b : Variable
wrong_type_b = variable (codes "b") (simple boolean) 1 0

abbrev wrong_type : Program
wrong_type = record {
  modules = 0 ∷ [];
  variables = wrong_type_x ∷ wrong_type_b ∷ [];
  bodies = (assign (at 44 0) integer (whole (own
      wrong_type_x)) (value (at 49 0) boolean (whole (own wrong_type_b)))) ∷ [];
}

-- module m; var b: Boolean; begin b := not 1 end m.
abbrev wrong_operand_b : Variable
wrong_operand_b = variable (codes "b") (simple boolean) 0 0

abbrev wrong_operand : Program
wrong_operand = record {
  modules = 0 ∷ [];
  variables = wrong_operand_b ∷ [];
  bodies = (assign (at 32 0) boolean (whole (own
      wrong_operand_b)) (unary (at 37 0) not_sign (constant (at 41 0) integer (pos 1)))) ∷ [];
}

-- module m; procedure p(var a: integer); end p; var b: Boolean; begin p(b) end m.
abbrev wrong_actual_p_called : Procedure
wrong_actual_p_called = procedure 0 (by_var (simple integer) ∷ []) [] skip

abbrev wrong_actual_b : Variable
wrong_actual_b = variable (codes "b") (simple boolean) 0 0

abbrev wrong_actual : Program
wrong_actual = record {
  modules = 0 ∷ [];
  variables = wrong_actual_b ∷ [];
  bodies = (call (at 68 0) wrong_actual_p_called (a_variable (whole
      (own wrong_actual_b)) no_more)) ∷ [];
}

-- two variables over one cell
abbrev overlapping : Program
overlapping = record { modules = 0 ∷ []; variables = variable (codes "a") (simple integer) 0 0 ∷ variable (codes "b") (simple char) 0 0 ∷ []; bodies = [] }

-- two modules, each around the other
abbrev knotted : Program
knotted = record { modules = 0 ∷ 2 ∷ 1 ∷ []; variables = []; bodies = [] }

pub record RefusedWorked : Type 0 where
  pub changed_outside_refused : well_formed changed_outside ≡ false
  pub lent_outside_refused : well_formed lent_outside ≡ false
  pub indexed_outside_refused : well_formed indexed_outside ≡ false
  pub selected_outside_refused : well_formed selected_outside ≡ false
  pub const_formal_stored_refused : well_formed const_formal_stored ≡ false
  pub wrong_type_refused : well_formed wrong_type ≡ false
  pub wrong_operand_refused : well_formed wrong_operand ≡ false
  pub wrong_actual_refused : well_formed wrong_actual ≡ false
  pub overlapping_refused : well_formed overlapping ≡ false
  pub knotted_refused : well_formed knotted ≡ false
