-- What is decided of some of a script's lines that wait.
use Rattle.std.specs.Prelude.{◌≡◌, ◌<◌, ℕ}
use Rattle.std.specs.List.{All}
use Rattle.crash_model.specs.ChosenWaits.{tracing_waiting, demands_waiting}
use Rattle.crash_model.specs.Checker.{Demands}
use Rattle.crash_model.specs.Disk.{Disk}
use Rattle.crash_model.specs.Trace.{IsGraphOf}
use Rattle.crash_model.specs.Tracing.{Tracing}
use Rattle.question_model.specs.EnoughLines.{AreEnoughLines}
use Rattle.traced_patches.specs.Traced.{TracedPatches}
use Rattle.enough_deciding.specs.Rules.{IsTracingOf, tracing_of}
use Rattle.enough_deciding.specs.declared.lines.Waiting.{Waiting}

-- a state of tracing with these patches, links and lines that wait
pub record HasWaits (t : TracedPatches) (s : Tracing) : Type 0 where
  pub traced : IsTracingOf t s
  pub waits : s.waits ≡ t.waits

-- one such state
abbrev pub waits_of : Disk → TracedPatches → Tracing
waits_of base t = record (tracing_of base t) { waits = t.waits }

-- the lines of the set are enough, by the rules of the patches
abbrev pub AreEnoughWaiting : Demands → Disk → TracedPatches → ℕ → Type 0
AreEnoughWaiting demands base t lines = AreEnoughLines demands base t.rules (waits_of base t) lines

-- the graph of a script and what it demands, if only the lines of a set wait
pub record IsScriptWaiting {A : Type 0} (wanted : Demands) (base : Disk) (t : TracedPatches) (chosen : ℕ)
    (script : Waiting A) : Type 0 where
  pub graph : (s : Tracing) → HasWaits t s → IsGraphOf t.rules base (tracing_waiting chosen s) script.graph
  pub fits : All (λ patch. patch.block < base.blocks) script.graph
  pub demands : script.demands ≡ demands_waiting t.waits chosen wanted
