-- There is at most one decision.
use Rattle.std.proofs.Common.{◌≡◌, ℕ, List, length, map, sym, subst, ap, ◌∙◌}
use Rattle.state_space.proofs.Counting.{one_number}
use Rattle.patch_sets.specs.Closed.{IsClosed}
use Rattle.crash_model.specs.Disk.{Disk}
use Rattle.crash_model.specs.Checker.{Demands}
use Rattle.crash_model.specs.FaultOrder.{IsFaultBefore}
use Rattle.crash_model.specs.FirstSets.{HasFault, IsFirst}
use Rattle.crash_model.specs.Patches.{deps_of}
use Rattle.crash_model.specs.Trace.{IsGraphOf}
use Rattle.crash_model.specs.Tracing.{Tracing}
use Rattle.crash_model.specs.declared.fault.Fault.{Fault}
use Rattle.crash_model.specs.declared.patches.Patch.{Patch}
use Rattle.crash_model.specs.declared.settings.Settings.{Settings}
use Rattle.question_model.specs.Decided.{AreDecided}
use Rattle.question_model.specs.ScriptGraph.{ordering_rules}
use Rattle.question_model.specs.declared.decided_fault.DecidedFault.{DecidedFault}
use Rattle.report.specs.FirstCrashes.{IsFirstCrash, decided_of}
use Rattle.report.specs.Decisions.{IsDecision, decision_bytes}
use Rattle.report.specs.OnGraphs.{detail_of, head_on}
use Rattle.report.specs.Found.{FirstCrash}
use Rattle.question_laws.proofs.OneSections.{first_one, made_one, not_both}
use Rattle.question_laws.proofs.Orders.{one_keyed, same_keyed}

module _ (has : Fault → ℕ → Type 0) where
  abbrev pub IsShown : DecidedFault → Type 0
  IsShown f = IsFirst (has f.fault) f.first

  pub shown_one : (f g : DecidedFault) → IsShown f → IsShown g → f.fault ≡ g.fault → f ≡ g
  shown_one f g is also same =
      let first : f.first ≡ g.first = first_one (has g.fault) f.first g.first
      (subst (λ h. IsFirst (has h) f.first) same is) also in
      λ i. record { fault = same i; first = first i }

  pub decided_one : (fs gs : List DecidedFault) → AreDecided has fs → AreDecided has gs → fs ≡ gs
  decided_one fs gs is also =
      one_keyed IsFaultBefore not_both (λ f. f.fault) IsShown shown_one fs gs is.ordered also.ordered is.each also.each
      (λ f here. is.every f.fault f.first here.among) (λ f here. also.every f.fault f.first here.among)

module _ (settings : Settings) where
  pub decision_one : (demands : Demands) (base : Disk) (last : Tracing) (patches : List Patch) (text other : List ℕ)
      (number more : ℕ) → IsGraphOf (ordering_rules settings) base last patches
      → IsDecision settings demands base last patches text number
      → IsDecision settings demands base last patches other more → (text ≡ other) × (number ≡ more)
  decision_one demands base last patches text other number more graph is also =
      let detail = detail_of settings demands in
      let total : is.total ≡ also.total = one_number (IsClosed (deps_of patches)) is.total also.total is.counted
      also.counted in
      let decided : map decided_of is.faults ≡ map decided_of also.faults =
      decided_one (HasFault demands base patches) (map decided_of is.faults) (map decided_of also.faults) is.decided
      also.decided in
      let faults : is.faults ≡ also.faults =
      same_keyed decided_of (IsFirstCrash detail base patches) (made_one detail base patches) is.faults also.faults
      decided is.made also.made in (
        is.whole ∙ ((λ i. decision_bytes settings (record {
          head = head_on settings demands base last patches (total i);
          faults = faults i;
        })) ∙ sym also.whole),
        is.number_of ∙ (ap (λ (some : List FirstCrash). length some) faults ∙ sym also.number_of),
      )
