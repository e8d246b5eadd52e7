-- What a search over a pool answers of the rules that its workloads need.
use Rattle.std.specs.Prelude.{◌≡◌, ℕ, List, map}
use Rattle.std.specs.List.{All}
use Rattle.patch_sets.specs.Sets.{AreAllInOrder}
use Rattle.crash_model.specs.Disk.{Disk}
use Rattle.crash_model.specs.declared.settings.Settings.{Settings}
use Rattle.crash_model.specs.declared.steps.Step.{Step}
use Rattle.question_model.specs.Workloads.{IsOfPool}
use Rattle.question_model.specs.declared.found.SearchCounts.{SearchCounts}
use Rattle.question_model.specs.declared.length.WorkloadLength.{WorkloadLength}
use Rattle.question_model.specs.EnoughFor.{IsMinimalInSearch, IsNeededInSearch}
use Rattle.pool_judging.specs.Judging.{search_by}
use Rattle.pool_judging.specs.declared.judge.PoolJudge.{PoolJudge}
use Rattle.report.specs.OnChoices.{rules_at}
use Rattle.report.specs.OnPools.{IsNeedOfSearch, IsSearchRulesReport, rules_bytes}
use Rattle.report.specs.Found.{Need}
use Rattle.crash_text.specs.Searching.{head_by}

-- the steps are a pool, and the text is the report on the rules that its workloads need
abbrev pub IsRuleSearchOf : Settings → WorkloadLength → Disk → List Step → List ℕ → ℕ → Type 0
IsRuleSearchOf settings longest base steps text number =
    All IsOfPool steps × IsSearchRulesReport settings longest base steps text number

-- the text is the report on what a judge's search finds and the rules that its workloads need
pub record IsRuleReportBy {A : Type 0} (settings : Settings) (judge : PoolJudge A) (found : SearchCounts)
    (text : List ℕ) : Type 0 where
  pub enough : List ℕ
  pub minimal : AreAllInOrder (IsMinimalInSearch (search_by judge)) enough
  pub needs : List Need
  pub needed : AreAllInOrder (IsNeededInSearch (search_by judge)) (map (λ n. n.group) needs)
  pub listed : All (IsNeedOfSearch (search_by judge) settings.explain) needs
  pub whole : text ≡ rules_bytes settings (record {
    head = head_by settings judge found;
    enough = map (rules_at (search_by judge).rules) enough;
    needs = needs;
  })
