-- These examples hold by computation.
use mathlib.Core.Path.{refl}
use Rattle.program.specs.Decided.{well_formed}
use Rattle.meaning.specs.Actions.{outcome}
use Rattle.meaning.specs.Meaning.{act, await, deliver, again_and_again}
use Rattle.worked.specs.Calls.{CallsWorked}

pub worked : CallsWorked
unfolding outcome act await deliver again_and_again well_formed
worked = record {
  calls_1_runs = refl;
  calls_1_fits = refl;
  calls_2_runs = refl;
  calls_2_fits = refl;
  awaits_passing_1_runs = refl;
  awaits_passing_1_fits = refl;
  awaits_passing_2_runs = refl;
  awaits_passing_2_fits = refl;
  open_bodies_1_runs = refl;
  open_bodies_1_fits = refl;
  open_bodies_2_runs = refl;
  open_bodies_2_fits = refl;
  order_of_cells_runs = refl;
  order_of_cells_fits = refl;
  call_in_actuals_runs = refl;
  call_in_actuals_fits = refl;
  result_not_assigned_runs = refl;
  result_not_assigned_fits = refl;
  calls_onward_runs = refl;
  calls_onward_fits = refl;
}
