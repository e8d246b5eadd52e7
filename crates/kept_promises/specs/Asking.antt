-- What a script is asked for.
use Rattle.std.specs.Prelude.{◌≡◌, List, Ok}
use Rattle.crash_model.specs.Checker.{Asked}
use Rattle.crash_model.specs.PromiseLines.{has_promises}
use Rattle.crash_model.specs.Disk.{Disk}
use Rattle.crash_model.specs.Trace.{trace_from}
use Rattle.crash_model.specs.Tracing.{Tracing, trace_start}
use Rattle.crash_model.specs.declared.modules.Module.{Module}
use Rattle.crash_model.specs.declared.orderings.Ordering.{Ordering}
use Rattle.crash_model.specs.declared.settings.Asked as settings
use Rattle.crash_model.specs.declared.steps.Step.{Step}

-- by the settings, of steps under a module
abbrev pub asked_of : settings.Asked → Module → List Step → Asked
asked_of asked kind steps = record {
  strict = asked.strict;
  atomic = asked.atomic;
  durable = asked.durable;
  counted = asked.counted;
  promising = has_promises steps;
  kind = kind;
}

-- no step is refused
abbrev pub AreAccepted : Ordering → Disk → List Step → Type 0
AreAccepted ordering base steps =
    (last : Tracing) × (trace_from ordering.«module» (trace_start ordering.whole_blocks base) steps ≡ Ok last)
