-- A kind of fault that workloads show, and the first crash of the first workload that shows it.
use Rattle.std.proofs.Common.{◌≡◌, ℕ, ◌<◌, List, Bool, length, subst, sym}
use Rattle.std.specs.List.{All}
use Rattle.patch_sets.specs.Closed.{IsClosed}
use Rattle.crash_model.specs.Checker.{Demands, AreDemands}
use Rattle.crash_model.specs.Patches.{deps_of}
use Rattle.crash_model.specs.Trace.{IsGraphOf}
use Rattle.crash_model.specs.declared.patches.Patch.{Patch}
use Rattle.crash_model.specs.declared.steps.Step.{Step}
use Rattle.question_model.specs.SearchCounts.{IsShown}
use Rattle.question_model.specs.Workloads.{Search, HasPatches, steps_at, workload_at}
use Rattle.question_model.specs.declared.found.ShownKind.{ShownKind}
use Rattle.traced_patches.specs.Traced.{TracedPatches}
use Rattle.pool_judging.specs.Traces.{IsTraced, IsTraceOf}
use Rattle.report.specs.Made.{IsSection}
use Rattle.report.specs.OnPools.{IsFirstOfKind}
use Rattle.report.specs.Parts.{Section}
use Rattle.report.proofs.Leading.{crash_leads}

module _ (s : Search) (shown : ShownKind) (is : IsShown s shown) where
  abbrev places : List ℕ
  places = shown.places.items

  pub below : All (λ place. place < length s.pool) places
  below = is.earliest.among.workload.among

  -- none of its steps is refused
  pub traced : (steps : List Step) → steps ≡ workload_at s places → ∥ IsTraced s steps ∥₁
  traced steps are = ∣ subst (IsTraced s) (sym are) is.earliest.among.workload.accepted ∣₁

  pub patches_of : (steps others : List Step) (t : TracedPatches) (demands : Demands) (patches : List Patch)
      → steps ≡ workload_at s places → others ≡ workload_at s places → IsTraceOf s steps t → patches ≡ t.patches
      → AreDemands s.asked s.base others demands → HasPatches s places demands patches
  patches_of steps others t demands patches are also of_steps same demanded =
      let at : IsTraceOf s (workload_at s places) t = subst (λ xs. IsTraceOf s xs t) are of_steps in
      record {
        last = at.last;
        traced = at.run;
        graph = subst (IsGraphOf s.rules s.base at.last) (sym same) at.graph;
        demanded = subst (λ xs. AreDemands s.asked s.base xs demands) also demanded;
      }

  module _ (demands : Demands) (patches : List Patch) (has : HasPatches s places demands patches) where
    -- a crash can leave its first set
    pub first_closed : IsClosed (deps_of patches) shown.first
    first_closed = (is.first demands patches has).among.1.failing.closed

    pub first_of_kind : (explain : Bool) (steps : List Step) (section : Section) → steps ≡ steps_at s.pool places
        → section.crash.set ≡ shown.first
        → IsSection (record { explain = explain; demands = demands }) s.base patches section
        → IsFirstOfKind s explain (record { shown = shown; steps = steps; section = section })
    first_of_kind explain steps section are of_set made = record {
      steps = are;
      demands = demands;
      patches = patches;
      traced = has;
      set = of_set;
      made = made;
      led = crash_leads patches has.graph.earlier section.crash
          (subst (IsClosed (deps_of patches)) (sym of_set) first_closed) made.runs;
    }
