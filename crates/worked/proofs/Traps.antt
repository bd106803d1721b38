-- These examples hold by computation.
use mathlib.Core.Path.{refl}
use Rattle.program.specs.Decided.{well_formed}
use Rattle.meaning.specs.Actions.{outcome}
use Rattle.meaning.specs.Meaning.{act, await, deliver, again_and_again}
use Rattle.worked.specs.Traps.{TrapsWorked}

pub worked : TrapsWorked
unfolding outcome act await deliver again_and_again well_formed
worked = record {
  divisions_1_runs = refl;
  divisions_1_fits = refl;
  divisions_2_runs = refl;
  divisions_2_fits = refl;
  divisions_3_runs = refl;
  divisions_3_fits = refl;
  beyond_1_runs = refl;
  beyond_1_fits = refl;
  beyond_2_runs = refl;
  beyond_2_fits = refl;
  index_traps_1_runs = refl;
  index_traps_1_fits = refl;
  index_traps_2_runs = refl;
  index_traps_2_fits = refl;
  first_trap_runs = refl;
  first_trap_fits = refl;
  never_foreign_runs = refl;
  never_foreign_fits = refl;
  signed_index_runs = refl;
  signed_index_fits = refl;
  array_in_procedure_runs = refl;
  array_in_procedure_fits = refl;
  inner_module_opens_runs = refl;
  inner_module_opens_fits = refl;
  record_in_its_module_runs = refl;
  record_in_its_module_fits = refl;
  constants_of_a_hidden_type_runs = refl;
  constants_of_a_hidden_type_fits = refl;
  trapped_counts_runs = refl;
  trapped_counts_fits = refl;
}
