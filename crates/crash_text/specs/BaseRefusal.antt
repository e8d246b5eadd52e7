-- Why there is no disk at the start line.
use Rattle.std.specs.Prelude.{◌≡◌, ◌⊎◌, List, Err}
use Rattle.crash_model.specs.Disk.{IsGeometry}
use Rattle.crash_model.specs.Generations.{new_disk}
use Rattle.crash_model.specs.Refusals.{run_of_trace}
use Rattle.crash_model.specs.Trace.{base_from}
use Rattle.crash_model.specs.declared.refusals.TraceFault.{TraceFault}
use Rattle.crash_model.specs.declared.refusals.RunFault.{RunFault}
use Rattle.crash_model.specs.declared.refusals.RunFault.TheVariants.{BadGeometry}
use Rattle.crash_model.specs.declared.settings.Settings.{Settings}
use Rattle.crash_model.specs.declared.steps.Step.{Step}

-- the geometry is bad, or a step before the start line is refused
abbrev pub IsBaseRefusal : Settings → List Step → RunFault → Type 0
IsBaseRefusal settings steps fault =
    ((¬ (IsGeometry settings.blocks settings.journal)) × (fault ≡ BadGeometry))
    ⊎ (IsGeometry settings.blocks settings.journal
    × ((why : TraceFault) × (base_from (new_disk settings.blocks settings.journal settings.generations) steps ≡ Err why)
    × (fault ≡ run_of_trace why)))
