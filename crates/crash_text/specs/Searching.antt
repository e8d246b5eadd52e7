-- What a search over a pool answers.
use Rattle.std.specs.Prelude.{◌≡◌, ℕ, List, map, length}
use Rattle.std.specs.List.{All}
use Rattle.crash_model.specs.Disk.{Disk}
use Rattle.crash_model.specs.declared.refusals.RunFault.{RunFault}
use Rattle.crash_model.specs.declared.refusals.RunFault.TheVariants.{GroupFault}
use Rattle.crash_model.specs.declared.settings.Settings.{Settings}
use Rattle.crash_model.specs.declared.steps.Step.{Step}
use Rattle.question_model.specs.Workloads.{IsOfPool}
use Rattle.question_model.specs.declared.found.SearchCounts.{SearchCounts}
use Rattle.question_model.specs.declared.length.WorkloadLength.{WorkloadLength}
use Rattle.pool_judging.specs.Judging.{search_by}
use Rattle.pool_judging.specs.Pools.{IsNoPool}
use Rattle.pool_judging.specs.declared.judge.PoolJudge.{PoolJudge}
use Rattle.report.specs.OnPools.{IsFirstOfKind, IsSearchReport, kinds_bytes}
use Rattle.report.specs.Found.{Kind}
use Rattle.report.specs.Searches.{SearchHead}

-- the steps are a pool, and the text is the report on it
abbrev pub IsSearchOf : Settings → WorkloadLength → Disk → List Step → List ℕ → ℕ → Type 0
IsSearchOf settings longest base steps text number =
    All IsOfPool steps × IsSearchReport settings longest base steps text number

-- the steps are no pool, and the fault has the line of the first step that no pool has
abbrev pub IsPoolRefusal : List Step → RunFault → Type 0
IsPoolRefusal steps fault = (line : ℕ) × IsNoPool steps line × (fault ≡ GroupFault line)

-- what is said of a judge's search
abbrev pub head_by : {A : Type 0} → Settings → PoolJudge A → SearchCounts → SearchHead
head_by settings judge found = record {
  settings = settings;
  most = judge.longest;
  pool = length judge.pool.now;
  found = found;
}

-- the text is the report on what a judge's search finds
pub record IsReportBy {A : Type 0} (settings : Settings) (judge : PoolJudge A) (found : SearchCounts)
    (text : List ℕ) : Type 0 where
  pub kinds : List Kind
  pub shown : map (λ k. k.shown) kinds ≡ found.kinds.items
  pub listed : All (IsFirstOfKind (search_by judge) settings.explain) kinds
  pub whole : text ≡ kinds_bytes settings (record { head = head_by settings judge found; kinds = kinds })
