-- The disk after a step, where steps are applied as they are, with no journal between.
use Rattle.std.specs.Prelude.{List, Result, Ok, Err}
use Rattle.crash_model.specs.Disk.{Disk}
use Rattle.crash_model.specs.declared.refusals.FsFault.{FsFault}
use Rattle.crash_model.specs.declared.plans.Change.{Change}
use Rattle.crash_model.specs.Plan.{plan_of, with_changes}
use Rattle.crash_model.specs.declared.steps.Act.{Act}
use Rattle.crash_model.specs.declared.steps.Act.TheVariants.{Do}

-- the disk with the changes of a plan made; as it was if that is a refusal
abbrev pub with_plan : Disk → Result (List Change) FsFault → Disk
with_plan d (Err e) = d
with_plan d (Ok cs) = with_changes d cs

-- the disk after a step; a group changes nothing, nor does what is refused
abbrev pub disk_after : Disk → Act → Disk
disk_after d (Do op) = with_plan d (plan_of d op)
disk_after d _ = d
