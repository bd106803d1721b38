-- These examples hold by computation.
use mathlib.Core.Path.{refl}
use Rattle.program.specs.Decided.{well_formed}
use Rattle.meaning.specs.Actions.{outcome}
use Rattle.meaning.specs.Meaning.{act, await, deliver, again_and_again}
use Rattle.worked.specs.Depths.{DepthsWorked}

pub worked : DepthsWorked
unfolding outcome act await deliver again_and_again well_formed
worked = record {
  actions_runs = refl;
  actions_fits = refl;
  places_runs = refl;
  places_fits = refl;
  depth_after_runs = refl;
  depth_after_fits = refl;
  target_waits_1_runs = refl;
  target_waits_1_fits = refl;
  target_waits_2_runs = refl;
  target_waits_2_fits = refl;
  variable_in_expression_1_runs = refl;
  variable_in_expression_1_fits = refl;
  variable_in_expression_2_runs = refl;
  variable_in_expression_2_fits = refl;
  around_an_action_1_runs = refl;
  around_an_action_1_fits = refl;
  around_an_action_2_runs = refl;
  around_an_action_2_fits = refl;
  around_an_action_3_runs = refl;
  around_an_action_3_fits = refl;
  and_or_1_runs = refl;
  and_or_1_fits = refl;
  and_or_2_runs = refl;
  and_or_2_fits = refl;
  and_or_3_runs = refl;
  and_or_3_fits = refl;
  sign_runs = refl;
  sign_fits = refl;
}
