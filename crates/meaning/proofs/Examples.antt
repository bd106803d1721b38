-- The worked examples hold by computation.
use Rattle.std.proofs.Common.{refl}
use Rattle.program.specs.Decided.{well_formed}
use Rattle.meaning.specs.Actions.{outcome}
use Rattle.meaning.specs.Meaning.{act, await, deliver, again_and_again}
use Rattle.meaning.specs.Examples.{Worked}

pub worked : Worked
unfolding outcome act await deliver again_and_again well_formed
worked = record {
  drops_the_fraction = refl;
  rounds_down = refl;
  rests = refl;
  divisor_below_1 = refl;
  remainder_below_1 = refl;
  divisor_0 = refl;
  one_too_large = refl;
  deep_before_foreign = refl;
  index_before_deep = refl;
  foreign_cell = refl;
  trapped_changes_nothing = refl;
  one_too_small = refl;
  yard_runs = refl;
  yard_fits = refl;
  no_quotient_runs = refl;
  no_quotient_fits = refl;
  sign_last_runs = refl;
  sign_last_fits = refl;
  left_then_right_runs = refl;
  left_then_right_fits = refl;
  index_first_runs = refl;
  index_first_fits = refl;
  index_and_store_runs = refl;
  index_and_store_fits = refl;
  turns_runs = refl;
  turns_fits = refl;
  register_read_runs = refl;
  register_read_fits = refl;
  register_given = refl;
  register_written_runs = refl;
  register_written_fits = refl;
  register_taken = refl;
  not_of_the_type_runs = refl;
  not_of_the_type_fits = refl;
  onward_runs = refl;
  onward_fits = refl;
  part_onward_runs = refl;
  part_onward_fits = refl;
  entry_clears_runs = refl;
  entry_clears_fits = refl;
  depth_400_runs = refl;
  depth_400_fits = refl;
  depth_401_runs = refl;
  depth_401_fits = refl;
}
