-- What is reported on a script, whatever the report says.
use Rattle.std.specs.Prelude.{ℕ, List}
use Rattle.crash_model.specs.Checker.{Demands, AreDemands}
use Rattle.crash_model.specs.Disk.{Disk}
use Rattle.crash_model.specs.Tracing.{Tracing}
use Rattle.crash_model.specs.declared.patches.Patch.{Patch}
use Rattle.crash_model.specs.declared.settings.Settings.{Settings}
use Rattle.question_model.specs.ScriptGraph.{asked_by, HasGraph}

-- the text and the number are those of such a report on the script's graph
pub record IsReported (IsOn : Demands → Disk → Tracing → List Patch → List ℕ → ℕ → Type 0) (bytes : List ℕ)
    (settings : Settings) (text : List ℕ) (number : ℕ) : Type 0 where
  pub demands : Demands
  pub base : Disk
  pub last : Tracing
  pub patches : List Patch
  pub graph : HasGraph bytes settings base last patches
  pub demanded : AreDemands (asked_by settings graph.steps) base graph.steps demands
  pub report : IsOn demands base last patches text number
