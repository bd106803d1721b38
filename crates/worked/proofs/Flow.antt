-- These examples hold by computation.
use mathlib.Core.Path.{refl}
use Rattle.program.specs.Decided.{well_formed}
use Rattle.meaning.specs.Actions.{outcome}
use Rattle.meaning.specs.Meaning.{act, await, deliver, again_and_again}
use Rattle.worked.specs.Flow.{FlowWorked}

pub worked : FlowWorked
unfolding outcome act await deliver again_and_again well_formed
worked = record {
  turns_1_runs = refl;
  turns_1_fits = refl;
  turns_2_runs = refl;
  turns_2_fits = refl;
  exits_1_runs = refl;
  exits_1_fits = refl;
  exits_2_runs = refl;
  exits_2_fits = refl;
  arms_runs = refl;
  arms_fits = refl;
  order_of_bodies_runs = refl;
  order_of_bodies_fits = refl;
  finished_at_once_1_runs = refl;
  finished_at_once_1_fits = refl;
  hundred_steps_1_runs = refl;
  hundred_steps_1_fits = refl;
  hundred_steps_2_runs = refl;
  hundred_steps_2_fits = refl;
  hundred_steps_3_runs = refl;
  hundred_steps_3_fits = refl;
}
