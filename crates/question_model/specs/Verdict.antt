-- How a sequence of operations of a pool is judged.
use Rattle.std.specs.Prelude.{◌≡◌, ℕ, ◌-◌, List, Option, None, Some, Ok, Err, slice_index_or}
use Rattle.crash_model.specs.Checker.{Demands}
use Rattle.crash_model.specs.Disk.{Disk}
use Rattle.crash_model.specs.FirstSets.{IsFirst}
use Rattle.crash_model.specs.Tracing.{Tracing}
use Rattle.crash_model.specs.declared.patches.Patch.{Patch}
use Rattle.crash_model.specs.declared.refusals.TraceFault.{TraceFault}
use Rattle.crash_model.specs.FaultKinds.{kind_number}
use Rattle.crash_model.specs.Refused.{refusal_of}
use Rattle.question_model.specs.Workloads.{Search, trace_at, HasPatches, Fails, HasKind}
use Rattle.crash_model.specs.declared.fault_kind.FaultKind.{FaultKind}
use Rattle.crash_model.specs.declared.refusal.Refusal.{Refusal}
use Rattle.question_model.specs.declared.verdict.Verdict.{Verdict}
use Rattle.question_model.specs.declared.verdict.Verdict.TheVariants as verdict

-- an operation is refused for the reason
pub record IsRefusal (s : Search) (places : List ℕ) (reason : Refusal) : Type 0 where
  pub fault : TraceFault
  pub refused : trace_at s places ≡ Err fault
  pub because : refusal_of fault ≡ Some reason

-- none of the operations is refused
abbrev pub IsAccepted : Search → List ℕ → Type 0
IsAccepted s places = (last : Tracing) × (trace_at s places ≡ Ok last)

-- the first set with a fault of the kind, or none where no set has one
abbrev pub IsFirstOfKind : FaultKind → Demands → Disk → List Patch → Option ℕ → Type 0
IsFirstOfKind kind demands base patches None = (set : ℕ) → ¬ (HasKind kind demands base patches set)
IsFirstOfKind kind demands base patches (Some set) = IsFirst (HasKind kind demands base patches) set

-- for each kind the first set with a fault of the kind; the kinds are in the order of their numbers, from 1
abbrev pub AreFirsts : Search → List ℕ → List (Option ℕ) → Type 0
AreFirsts s places firsts =
    (demands : Demands) (patches : List Patch) → HasPatches s places demands patches → (kind : FaultKind)
    → IsFirstOfKind kind demands s.base patches (slice_index_or firsts (kind_number kind - 1) None)

-- the verdict on the sequence of operations at these places
abbrev pub IsVerdict : Search → List ℕ → Verdict → Type 0
IsVerdict s places (verdict.Refused reason) = IsRefusal s places reason
IsVerdict s places verdict.Passes = IsAccepted s places × (¬ (Fails s places))
IsVerdict s places (verdict.Fails firsts) = IsAccepted s places × Fails s places × AreFirsts s places firsts
