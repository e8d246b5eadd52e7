-- What is reported of a search over a pool: the kinds of faults that workloads show, or the rules that they need.
use Rattle.std.specs.Prelude.{◌≡◌, ℕ, List, length, map, Bool, ◌==◌, if◌then◌else◌}
use Rattle.std.specs.List.{All}
use Rattle.patch_sets.specs.Sets.{AreAllInOrder}
use Rattle.crash_model.specs.Checker.{Demands}
use Rattle.crash_model.specs.Disk.{Disk}
use Rattle.crash_model.specs.declared.patches.Patch.{Patch}
use Rattle.crash_model.specs.declared.settings.Settings.{Settings}
use Rattle.crash_model.specs.declared.steps.Step.{Step}
use Rattle.question_model.specs.Enough.{rules_but}
use Rattle.question_model.specs.EnoughFor.{FailsBy, IsMinimalInSearch, IsNeededInSearch, search_with}
use Rattle.question_model.specs.ScriptGraph.{HasBase, asked_by, ordering_rules}
use Rattle.question_model.specs.SearchCounts.{AreSearchCounts}
use Rattle.question_model.specs.Sequences.{IsFirstSequence}
use Rattle.question_model.specs.Workloads.{Search, HasPatches, IsOfPool, keeps_of, places_of, steps_at}
use Rattle.question_model.specs.declared.found.SearchCounts.{SearchCounts}
use Rattle.report.specs.Made.{IsSection, IsLed}
use Rattle.report.specs.FirstCrashes.{IsFirstOfAll}
use Rattle.report.specs.OnChoices.{rules_at}
use Rattle.report.specs.OnGraphs.{bytes_in}
use Rattle.report.specs.Found.{Kind, Need}
use Rattle.report.specs.Searches.{FoundKinds, FoundRules, SearchHead, kinds_json, kinds_text, rules_json, rules_text}

-- ---- a search over a pool

-- the text and the number are those of such a report on the script's steps after the start line, which are a pool
pub record IsReportedOfPool (IsOn : Disk → List Step → List ℕ → ℕ → Type 0) (bytes : List ℕ) (settings : Settings)
    (text : List ℕ) (number : ℕ) : Type 0 where
  pub base : Disk
  pub pool : List Step
  pub start : HasBase bytes settings base pool
  pub operations : All IsOfPool pool
  pub report : IsOn base pool text number

-- the search that the settings ask for, over a base and the lines of a pool
abbrev pub search_of : Settings → ℕ → Disk → List Step → Search
search_of settings most base lines = record {
  ordering = settings.module;
  rules = ordering_rules settings;
  whole = settings.whole_blocks;
  asked = asked_by settings lines;
  base = base;
  keeps = keeps_of lines;
  pool = places_of lines;
  most = most;
}

-- what is said of a search over a pool, whose workloads have at most so many steps
abbrev pub head_of_search : Settings → ℕ → List Step → SearchCounts → SearchHead
head_of_search settings most pool found = record {
  settings = settings;
  most = most;
  pool = length (places_of pool);
  found = found;
}

-- ---- the kinds of faults

-- the steps of the first workload that shows the kind, and the crash that leaves its first set with such a fault
pub record IsFirstOfKind (s : Search) (explain : Bool) (k : Kind) : Type 0 where
  pub steps : k.steps ≡ steps_at s.pool k.shown.places.items
  pub demands : Demands
  pub patches : List Patch
  pub traced : HasPatches s k.shown.places.items demands patches
  pub set : k.section.crash.set ≡ k.shown.first
  pub made : IsSection (record { explain = explain; demands = demands }) s.base patches k.section
  pub led : IsLed patches k.section.crash

abbrev pub kinds_bytes : Settings → FoundKinds → List ℕ
kinds_bytes settings r = bytes_in settings (kinds_text r) (kinds_json settings.numbers r)

-- the report, and 1 if a workload fails, otherwise 0
pub record IsSearchReport (settings : Settings) (most : ℕ) (base : Disk) (pool : List Step) (text : List ℕ)
    (number : ℕ) : Type 0 where
  pub found : SearchCounts
  pub exactly : AreSearchCounts (search_of settings most base pool) found
  pub kinds : List Kind
  pub shown : map (λ k. k.shown) kinds ≡ found.kinds.items
  pub listed : All (IsFirstOfKind (search_of settings most base pool) settings.explain) kinds
  pub whole : text ≡ kinds_bytes settings (record { head = head_of_search settings most pool found; kinds = kinds })
  pub number_of : number ≡ (if found.failing == 0 then 0 else 1)

-- ---- the rules that workloads need

-- the search by all its rules but those of a group
abbrev pub search_but : Search → ℕ → Search
search_but s group = search_with s (rules_but s.rules group)

-- rules of which one is needed: the steps of the first workload that fails without them, and its first crash then
pub record IsNeedOfSearch (s : Search) (explain : Bool) (n : Need) : Type 0 where
  pub places : List ℕ
  pub earliest : IsFirstSequence (FailsBy s (rules_but s.rules n.group)) places
  pub choices : n.choices ≡ rules_at s.rules n.group
  pub steps : n.steps ≡ steps_at s.pool places
  pub demands : Demands
  pub patches : List Patch
  pub traced : HasPatches (search_but s n.group) places demands patches
  pub first : IsFirstOfAll (record { explain = explain; demands = demands }) s.base patches n.first

abbrev pub rules_bytes : Settings → FoundRules → List ℕ
rules_bytes settings r = bytes_in settings (rules_text r) (rules_json settings.numbers r)

-- the report, and 1 if a workload fails, otherwise 0; the workloads that fail say nothing of the rules
pub record IsSearchRulesReport (settings : Settings) (most : ℕ) (base : Disk) (pool : List Step) (text : List ℕ)
    (number : ℕ) : Type 0 where
  pub found : SearchCounts
  pub exactly : AreSearchCounts (search_of settings most base pool) found
  pub enough : List ℕ
  pub minimal : AreAllInOrder (IsMinimalInSearch (search_of settings most base pool)) enough
  pub needs : List Need
  pub needed : AreAllInOrder (IsNeededInSearch (search_of settings most base pool)) (map (λ n. n.group) needs)
  pub listed : All (IsNeedOfSearch (search_of settings most base pool) settings.explain) needs
  pub whole : text ≡ rules_bytes settings (record {
    head = head_of_search settings most pool found;
    enough = map (rules_at (search_of settings most base pool).rules) enough;
    needs = needs;
  })
  pub number_of : number ≡ (if found.failing == 0 then 0 else 1)
