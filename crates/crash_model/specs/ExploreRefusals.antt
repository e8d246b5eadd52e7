-- What a run's refusal is where its sets are not explored to the end.
use Rattle.patch_sets.specs.declared.explored.ExploreFault.{ExploreFault}
use Rattle.patch_sets.specs.declared.explored.ExploreFault.TheVariants as explore
use Rattle.crash_model.specs.declared.refusals.RunFault.{RunFault}
use Rattle.crash_model.specs.declared.refusals.RunFault.TheVariants as run

abbrev pub run_of_explore : ExploreFault → RunFault
run_of_explore explore.TooMany = run.TooMany
run_of_explore explore.OutOfMemory = run.OutOfMemory
