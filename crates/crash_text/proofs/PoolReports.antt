-- A judge's search is the one that the settings ask for.
use Rattle.std.proofs.Common.{◌≡◌, ℕ, List, ◌++◌, Bool, refl}
use Rattle.std.specs.Prelude.{All}
use Rattle.crash_model.specs.Disk.{Disk}
use Rattle.question_model.specs.ScriptGraph.{ordering_rules}
use Rattle.crash_model.specs.declared.modules.Module.{Module}
use Rattle.crash_model.specs.declared.rules.Rule.{Rule}
use Rattle.crash_model.specs.declared.settings.Asked.{Asked}
use Rattle.crash_model.specs.declared.settings.Settings.{Settings}
use Rattle.crash_model.specs.declared.steps.Step.{Step}
use Rattle.report.specs.OnPools.{search_of}
use Rattle.question_model.specs.Workloads.{Search, IsOfPool, keeps_of, places_of}
use Rattle.kept_promises.specs.Asking.{asked_of}
use Rattle.pool_judging.proofs.Pools.{promising_lines}
use Rattle.crash_text.specs.Traced.{asks_of}

-- a search under this ordering
abbrev pub search_under : Asked → ℕ → Disk → List Step → List Step → Module → Bool → List Rule → Search
search_under asked most base keeps places kind whole rules = record {
  ordering = kind;
  rules = rules;
  whole = whole;
  asked = asked_of asked kind (keeps ++ places);
  base = base;
  keeps = keeps;
  pool = places;
  most = most;
}

-- is the one that the settings ask for
pub same_search : (settings : Settings) (base : Disk) (lines : List Step) (most : ℕ) (asked : Asked)
    (keeps places : List Step) (kind : Module) (whole : Bool) (rules : List Rule) → All IsOfPool lines
    → asked ≡ asks_of settings → keeps ≡ keeps_of lines → places ≡ places_of lines → kind ≡ settings.module
    → whole ≡ settings.whole_blocks → rules ≡ ordering_rules settings
    → search_under asked most base keeps places kind whole rules ≡ search_of settings most base lines
same_search settings base lines most asked keeps places kind whole rules all asks are_keeps are_places of_kind is_whole
    are_rules = rw (asks, are_keeps, are_places, of_kind, is_whole, are_rules, promising_lines lines all) refl
