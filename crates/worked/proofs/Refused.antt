-- These examples hold by computation.
use mathlib.Core.Path.{refl}
use Rattle.program.specs.Decided.{well_formed}
use Rattle.worked.specs.Refused.{RefusedWorked}

pub worked : RefusedWorked
unfolding well_formed
worked = record {
  changed_outside_refused = refl;
  lent_outside_refused = refl;
  indexed_outside_refused = refl;
  selected_outside_refused = refl;
  const_formal_stored_refused = refl;
  wrong_type_refused = refl;
  wrong_operand_refused = refl;
  wrong_actual_refused = refl;
  overlapping_refused = refl;
  knotted_refused = refl;
}
