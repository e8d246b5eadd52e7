-- What a judge of a pool judges.
use Rattle.std.specs.Prelude.{◌≡◌, ℕ, List, ◌++◌}
use Rattle.crash_model.specs.Disk.{Disk}
use Rattle.crash_model.specs.RuleFacts.{AreAmong}
use Rattle.crash_model.specs.Rules.{rules_of}
use Rattle.crash_model.specs.Checker.{Demands, IsFailingUnder}
use Rattle.crash_model.specs.declared.modules.Module.TheVariants.{Full}
use Rattle.crash_model.specs.declared.patches.Patch.{Patch}
use Rattle.kept_promises.specs.Asking.{asked_of}
use Rattle.pool_judging.specs.Firsts.{AreFirstOfKinds}
use Rattle.question_model.specs.Workloads.{Search}
use Rattle.question_model.specs.declared.verdict.Verdict.{Verdict}
use Rattle.question_model.specs.declared.verdict.Verdict.TheVariants.{Refused, Passes, Fails}
use Rattle.pool_judging.specs.declared.judge.PoolJudge.{PoolJudge}

-- the search whose sequences are judged
abbrev pub search_by : {A : Type 0} → PoolJudge A → Search
search_by j = record {
  ordering = j.ordering.now.«module»;
  rules = j.ordering.now.rules.items;
  whole = j.ordering.now.whole_blocks;
  asked = asked_of j.asked j.ordering.now.«module» (j.keeps.now ++ j.pool.now);
  base = j.base.now;
  keeps = j.keeps.now;
  pool = j.pool.now;
  most = j.longest;
}

-- a set of the patches fails
abbrev pub SomeFails : Demands → Disk → List Patch → Type 0
SomeFails demands base patches = (set : ℕ) × IsFailingUnder demands base patches set

-- the verdict on operations with these patches, of which none is refused
abbrev pub IsVerdictOn : Demands → Disk → List Patch → Verdict → Type 0
IsVerdictOn demands base patches (Refused reason) = ⊥
IsVerdictOn demands base patches Passes = ¬ (SomeFails demands base patches)
IsVerdictOn demands base patches (Fails firsts) =
    SomeFails demands base patches × AreFirstOfKinds demands base patches firsts

-- it is not that a set fails
abbrev pub IsNoFailure : Verdict → Type 0
IsNoFailure (Fails firsts) = ⊥
IsNoFailure _ = Unit {0}

-- the ordering is the full journal with all its rules, and perhaps others, and its promises are judged
pub record IsFullJournal (s : Search) : Type 0 where
  pub full : s.ordering ≡ Full
  pub all : AreAmong (rules_of Full) s.rules
  pub asked : s.asked.kind ≡ Full
