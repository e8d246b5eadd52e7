-- The traces of sequences of steps of a pool, and what they demand.
use Rattle.std.specs.Prelude.{◌≡◌, ℕ, ◌+◌, ◌<◌, ◌≤◌, List, ◌++◌, length, Ok}
use Rattle.std.specs.List.{All}
use Rattle.crash_model.specs.Checker.{Demands, AreDemands}
use Rattle.crash_model.specs.Promises.{promises_of}
use Rattle.crash_model.specs.Trace.{trace_from}
use Rattle.crash_model.specs.Tracing.{Tracing, trace_start}
use Rattle.crash_model.specs.declared.steps.Step.{Step}
use Rattle.inode_fs.specs.Demanding.{IsSoFar}
use Rattle.order_modules.specs.Tracer.{Trace, GivesNames}
use Rattle.promise_steps.specs.Underway.{all_finished}
use Rattle.kept_promises.specs.Watched.{AreAt, unders_of}
use Rattle.kept_promises.specs.declared.promising.Promising.{Promising}
use Rattle.question_model.specs.Workloads.{Search, workload_at}
use Rattle.pool_judging.specs.declared.prefix.TracedPrefix.{TracedPrefix}

-- the trace of these steps
pub record IsTraceBy (s : Search) (steps : List Step) (t : Trace) : Type 0 where
  pub base : t.log.base ≡ s.base
  pub kind : t.log.kind ≡ s.ordering
  pub rules : t.log.rules ≡ s.rules
  pub traced : trace_from s.ordering (trace_start s.whole s.base) steps ≡ Ok t.tracing
  pub names : All GivesNames steps

-- the promises of these steps, which a trace has come to the end of, whatever steps follow
pub record ArePromised {A : Type 0} (s : Search) (steps : List Step) (here : Tracing) (p : Promising A) : Type 0 where
  pub found : (rest : List Step) → all_finished s.ordering s.asked.durable here rest (unders_of p)
      ≡ promises_of s.ordering s.asked.durable s.base (steps ++ rest)
  pub at : AreAt p here
  pub durable : p.is_durable ≡ s.asked.durable

-- what is made of these steps
pub record IsPrefixBy {A : Type 0} (s : Search) (steps : List Step) (prefix : TracedPrefix A) : Type 0 where
  pub is : IsTraceBy s steps prefix.tracer
  pub demands : IsSoFar s.asked.strict s.asked.atomic s.base steps prefix.demanding
  pub promises : ArePromised s steps prefix.tracer.tracing prefix.promising

-- what is made of the beginning with the steps at these places
pub record IsPrefixAt {A : Type 0} (s : Search) (places : List ℕ) (prefix : TracedPrefix A) : Type 0 where
  pub short : length places < 8
  pub among : All (λ place. place < length s.pool) places
  pub op_numbers : prefix.tracer.tracing.op_number ≤ length places + 1
  pub are : IsPrefixBy s (workload_at s places) prefix

-- the trace of the steps at these places
abbrev pub IsTraceAt : Search → List ℕ → Trace → Type 0
IsTraceAt s places t = IsTraceBy s (workload_at s places) t

-- what the steps at these places demand of the sets that a crash leaves of them
abbrev pub AreDemandsAt : Search → List ℕ → Demands → Type 0
AreDemandsAt s places demands = AreDemands s.asked s.base (workload_at s places) demands
