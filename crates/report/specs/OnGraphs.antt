-- What is reported on the graph of a script, and how many sets fail.
use Rattle.std.specs.Prelude.{ℕ, List, ◌++◌, length, Bool, codes, ◌≡◌, [], if◌then◌else◌, ◌&&◌, is_some, ◌≤◌}
use Rattle.std.specs.List.{All}
use Rattle.serde_json.specs.Data.{Data}
use Rattle.crash_model.specs.Reasons.{blocks_of, explained_patches}
use Rattle.crash_model.specs.declared.settings.Settings.{Settings}
use Rattle.report.specs.Parts.{Section}
use Rattle.serde_json.specs.Written.{compact_text}
use Rattle.patch_sets.specs.Sets.{AreAllInOrder}
use Rattle.crash_model.specs.Checker.{Demands, promised, IsFailingUnder}
use Rattle.crash_model.specs.Disk.{Disk}
use Rattle.crash_model.specs.declared.patches.Patch.{Patch}
use Rattle.question_model.specs.ScriptGraph.{ordering_rules}
use Rattle.report.specs.Made.{Detail, AreSections, IsLed}
use Rattle.crash_model.specs.Tracing.{Tracing}
use Rattle.patch_sets.specs.Machine.{CanLeave}
use Rattle.crash_model.specs.Patches.{deps_of, homes_of, CountsClosed}
use Rattle.report.specs.Reports.{Head, FailingSets, sets_text}
use Rattle.report.specs.ReportsJson.{sets_json}

-- what is reported of a set, with what is demanded of its image
abbrev pub detail_of : Settings → Demands → Detail
detail_of settings demands = record { explain = settings.explain; demands = demands }

-- the items, if they are explained
abbrev pub explained : {X : Type 0} → Bool → List X → List X
explained explain items = if explain then items else []

-- what is said of the graph of patches that were traced over a base, with this number of closed sets
abbrev pub head_on : Settings → Demands → Disk → Tracing → List Patch → ℕ → Head
head_on settings demands base s patches closed = record {
  settings = settings;
  patches = length patches;
  closed = closed;
  base = blocks_of base;
  trace = explained settings.explain
      (explained_patches (ordering_rules settings) s.whole s.links s.emitted patches);
  waits = explained settings.explain s.waits;
  promises = explained settings.explain (promised demands.promises);
  promising = settings.explain && is_some demands.promises;
}

-- the bytes of a report with this text and this JSON: the JSON has no spaces, and a line feed after it
abbrev pub bytes_in : Settings → List ℕ → Data → List ℕ
bytes_in settings text json = if settings.json then compact_text json ++ codes "\n" else text

abbrev pub sets_bytes : Settings → FailingSets → List ℕ
sets_bytes settings r = bytes_in settings (sets_text r) (sets_json settings.numbers r)

-- the report on a graph with so many failing sets: how many of its closed sets fail, each of which a crash can leave
pub record IsReport (settings : Settings) (limit : ℕ) (demands : Demands) (base : Disk) (last : Tracing)
    (patches : List Patch) (text : List ℕ) (failing : ℕ) : Type 0 where
  pub total : ℕ
  pub counted : CountsClosed patches total
  pub within : total ≤ limit
  pub sets : List ℕ
  pub exactly : AreAllInOrder (IsFailingUnder demands base patches) sets
  pub left : All (CanLeave (deps_of patches) (homes_of patches)) sets
  pub number : failing ≡ length sets
  pub sections : List Section
  pub listed : AreSections (detail_of settings demands) base patches sets sections
  pub led : All (λ s. IsLed patches s.crash) sections
  pub whole : text ≡ sets_bytes settings (record {
    head = head_on settings demands base last patches total;
    sections = sections;
  })
