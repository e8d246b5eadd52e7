-- What is traced of steps of a pool.
use Rattle.std.specs.Prelude.{◌≡◌, ◌↔◌, List, Ok, Bool, IsTrue}
use Rattle.crash_model.specs.Checker.{Demands}
use Rattle.crash_model.specs.Disk.{Disk}
use Rattle.crash_model.specs.Trace.{trace_from, IsGraphOf}
use Rattle.crash_model.specs.Tracing.{Tracing, trace_start}
use Rattle.crash_model.specs.declared.patches.Patch.{Patch}
use Rattle.crash_model.specs.declared.rules.Rule.{Rule}
use Rattle.crash_model.specs.declared.steps.Step.{Step}
use Rattle.enough_deciding.specs.Rules.{IsTracingOf, IsGraphBy}
use Rattle.pool_judging.specs.Judging.{SomeFails}
use Rattle.question_model.specs.Workloads.{Search}
use Rattle.traced_patches.specs.Traced.{TracedPatches}

-- none of the steps is refused
abbrev pub IsTraced : Search → List Step → Type 0
IsTraced s steps = (last : Tracing) × (trace_from s.ordering (trace_start s.whole s.base) steps ≡ Ok last)

-- the patches of the steps by the rules of the search, with what each of them is
pub record IsTraceOf (s : Search) (steps : List Step) (t : TracedPatches) : Type 0 where
  pub last : Tracing
  pub run : trace_from s.ordering (trace_start s.whole s.base) steps ≡ Ok last
  pub graph : IsGraphOf s.rules s.base last t.patches
  pub of_it : IsTracingOf t last
  pub rules : t.rules ≡ s.rules

-- the answer says whether a set of the patches by these rules fails
pub record IsAnswerBy (demands : Demands) (base : Disk) (t : TracedPatches) (rules : List Rule)
    (fails : Bool) : Type 0 where
  pub patches : List Patch
  pub graph : IsGraphBy rules base t patches
  pub answer : IsTrue fails ↔ SomeFails demands base patches
