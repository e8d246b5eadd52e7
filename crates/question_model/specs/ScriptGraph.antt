-- The base of a script under some settings, the graph of its patches, and what the checker is asked for.
use Rattle.std.specs.Prelude.{◌≡◌, ℕ, List, Ok}
use Rattle.crash_model.specs.Disk.{Disk, IsGeometry}
use Rattle.crash_model.specs.Generations.{new_disk}
use Rattle.crash_model.specs.ChosenRules.{rules_under}
use Rattle.crash_model.specs.Tracing.{Tracing, trace_start}
use Rattle.crash_model.specs.Trace.{trace_from, base_from, IsGraphOf}
use Rattle.crash_model.specs.Checker.{Asked}
use Rattle.crash_model.specs.PromiseLines.{has_promises}
use Rattle.crash_model.specs.Script.{IsScript}
use Rattle.crash_model.specs.declared.patches.Patch.{Patch}
use Rattle.crash_model.specs.declared.rules.Rule.{Rule}
use Rattle.crash_model.specs.declared.settings.Settings.{Settings}
use Rattle.crash_model.specs.declared.steps.Step.{Step}

-- the disk at the start line, and the steps after it
pub record HasBase (bytes : List ℕ) (settings : Settings) (base : Disk) (steps : List Step) : Type 0 where
  pub before : List Step
  pub read : IsScript bytes before steps
  pub geometry : IsGeometry settings.blocks settings.journal
  pub built : base_from (new_disk settings.blocks settings.journal settings.generations) before ≡ Ok base

-- the rules of the ordering that the settings ask for
abbrev pub ordering_rules : Settings → List Rule
ordering_rules settings = rules_under settings.module settings.without.items settings.with.items

-- what the settings ask a checker for, of a script with these lines
abbrev pub asked_by : Settings → List Step → Asked
asked_by settings lines = record {
  strict = settings.strict;
  atomic = settings.atomic;
  durable = settings.durable;
  counted = settings.counted;
  promising = has_promises lines;
  kind = settings.module;
}

-- the graph of the patches of those steps, with the state that they end in
pub record HasGraph (bytes : List ℕ) (settings : Settings) (base : Disk) (last : Tracing)
    (patches : List Patch) : Type 0 where
  pub steps : List Step
  pub start : HasBase bytes settings base steps
  pub run : trace_from settings.module (trace_start settings.whole_blocks base) steps ≡ Ok last
  pub graph : IsGraphOf (ordering_rules settings) base last patches
