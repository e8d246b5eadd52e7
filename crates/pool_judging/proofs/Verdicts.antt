-- What is found of one graph of a sequence holds of each, since a sequence has only one.
use Rattle.std.proofs.Common.{◌≡◌, ℕ, List, subst}
use Rattle.std.specs.Prelude.{Result, Ok, Err, IfOk}
use Rattle.crash_model.specs.Disk.{Disk}
use Rattle.crash_model.specs.Checker.{Demands, IsFailingUnder}
use Rattle.crash_model.specs.Trace.{IsGraphOf}
use Rattle.crash_model.specs.Tracing.{Tracing}
use Rattle.crash_model.specs.declared.patches.Patch.{Patch}
use Rattle.crash_model.specs.declared.refusals.TraceFault.{TraceFault}
use Rattle.question_model.specs.Verdict.{IsVerdict}
use Rattle.question_model.specs.Workloads.{Search, HasPatches, workload_at, trace_at}
use Rattle.question_model.specs.declared.verdict.Verdict.{Verdict}
use Rattle.question_model.specs.declared.verdict.Verdict.TheVariants.{Refused, Passes, Fails}
use Rattle.uniqueness_laws.proofs.Demands.{one_demands}
use Rattle.uniqueness_laws.proofs.OneGraph.{graph_one}
use Rattle.pool_judging.specs.Firsts.{AreFirstOfKinds}
use Rattle.pool_judging.specs.Judging.{SomeFails, IsVerdictOn, IsNoFailure}

one_ok : (r : Result Tracing TraceFault) (a b : Tracing) → r ≡ Ok a → r ≡ Ok b → a ≡ b
one_ok r a b e f = cc

-- a sequence has one graph, and demands one thing
module _ (s : Search) (places : List ℕ) (demands other : Demands) (patches others : List Patch)
    (is : HasPatches s places demands patches) (also : HasPatches s places other others) where
  pub same_demands : demands ≡ other
  same_demands = one_demands s.asked s.base (workload_at s places) demands other is.demanded also.demanded

  pub same_patches : patches ≡ others
  same_patches =
      let last = one_ok (trace_at s places) is.last also.last is.traced also.traced in
      graph_one s.rules s.base also.last patches others
      (subst (λ (t : Tracing). IsGraphOf s.rules s.base t patches) last is.graph) also.graph

  -- so what holds of the one holds of the other
  pub of_each : (P : Demands → List Patch → Type 0) → P demands patches → P other others
  of_each P holds = subst (P other) same_patches (subst (λ k. P k patches) same_demands holds)

pub verdict_on : (s : Search) (places : List ℕ) (demands : Demands) (patches : List Patch) (verdict : Verdict)
    → HasPatches s places demands patches → IsVerdictOn demands s.base patches verdict → IsVerdict s places verdict
verdict_on s places demands patches (Refused reason) is none = absurd none
verdict_on s places demands patches Passes is none = (
  (is.last, is.traced),
  λ (other, others, also, some). none (of_each s places other demands others patches also is
      (λ k ps. SomeFails k s.base ps) some),
)
verdict_on s places demands patches (Fails firsts) is (some, are) = (
  (is.last, is.traced),
  (demands, patches, is, some),
  λ other others also. of_each s places demands other patches others is also
      (λ k ps. AreFirstOfKinds k s.base ps firsts) are,
)

-- a verdict is no failure in one way at most
pub no_failure_prop : {E : Type 0} (result : Result Verdict E) → IsProp (IfOk result IsNoFailure)
no_failure_prop (Ok (Refused reason)) = hlevel
no_failure_prop (Ok Passes) = hlevel
no_failure_prop (Ok (Fails firsts)) = hlevel
no_failure_prop (Err e) = hlevel

-- where no set fails the verdict is not that one does
pub never_fails : (demands : Demands) (base : Disk) (patches : List Patch) (verdict : Verdict)
    → ((set : ℕ) → ¬ (IsFailingUnder demands base patches set)) → IsVerdictOn demands base patches verdict
    → IsNoFailure verdict
never_fails demands base patches Passes none is = tt
never_fails demands base patches (Refused reason) none is = tt
never_fails demands base patches (Fails firsts) none (some, are) = absurd (none some.0 some.1)
