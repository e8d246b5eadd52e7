-- What is decided of some rules of a trace's ordering.
use Rattle.std.specs.Prelude.{◌≡◌, List, Option}
use Rattle.crash_model.specs.Checker.{Demands}
use Rattle.crash_model.specs.Disk.{Disk}
use Rattle.crash_model.specs.OtherRules.{HasGraphBy}
use Rattle.crash_model.specs.FirstSets.{HasFault}
use Rattle.crash_model.specs.Trace.{IsGraphOf}
use Rattle.crash_model.specs.Tracing.{Tracing, trace_start}
use Rattle.crash_model.specs.declared.patches.Patch.{Patch}
use Rattle.crash_model.specs.declared.rules.Rule.{Rule}
use Rattle.question_model.specs.declared.decided_fault.DecidedFault.{DecidedFault}
use Rattle.fault_deciding.specs.Asked.{IsFirstFault}
use Rattle.traced_patches.specs.Traced.{TracedPatches}

-- a state of tracing with these patches and links, where blocks are written whole or not as there
pub record IsTracingOf (t : TracedPatches) (s : Tracing) : Type 0 where
  pub emitted : s.emitted ≡ t.emitted
  pub links : s.links ≡ t.links
  pub whole : s.whole ≡ t.whole

-- one such state
abbrev pub tracing_of : Disk → TracedPatches → Tracing
tracing_of base t = record (trace_start t.whole base) { emitted = t.emitted; links = t.links }

-- the patches by these rules, in each such state
abbrev pub IsGraphBy : List Rule → Disk → TracedPatches → List Patch → Type 0
IsGraphBy rules base t patches = (s : Tracing) → IsTracingOf t s → IsGraphOf rules base s patches

-- the first fault of the patches by these rules, if there is one
abbrev pub IsFirstBy : Demands → Disk → TracedPatches → List Rule → Option DecidedFault → Type 0
IsFirstBy demands base t rules found =
    HasGraphBy rules base (tracing_of base t) (λ patches. IsFirstFault (HasFault demands base patches) found)
