-- The first sets of the faults of a kind.
use Rattle.std.specs.Prelude.{◌≡◌, ℕ, ◌-◌, List, Option, None, MatchOption, slice_index_or}
use Rattle.std.specs.List.{Contains}
use Rattle.patch_sets.specs.Sets.{IsBefore}
use Rattle.crash_model.specs.Checker.{Demands}
use Rattle.crash_model.specs.Disk.{Disk}
use Rattle.crash_model.specs.declared.patches.Patch.{Patch}
use Rattle.question_model.specs.declared.decided_fault.DecidedFault.{DecidedFault}
use Rattle.crash_model.specs.FaultKinds.{kind_of, kind_number}
use Rattle.question_model.specs.Verdict.{IsFirstOfKind}
use Rattle.crash_model.specs.declared.fault_kind.FaultKind.{FaultKind}

-- a fault of the list that is of the kind, with this set
abbrev pub IsOfKind : FaultKind → List DecidedFault → DecidedFault → Type 0
IsOfKind kind faults decided = Contains faults decided × (kind_of decided.fault ≡ kind)

-- one of the sets of the faults of a kind, and none of them is before it
pub record IsLeast (kind : FaultKind) (faults : List DecidedFault) (set : ℕ) : Type 0 where
  pub decided : DecidedFault
  pub among : IsOfKind kind faults decided
  pub of_it : decided.first ≡ set
  pub least : (other : DecidedFault) → IsOfKind kind faults other → ¬ (IsBefore other.first set)

-- the same, or none where no fault is of the kind
abbrev pub IsLeastOfKind : FaultKind → List DecidedFault → Option ℕ → Type 0
IsLeastOfKind kind faults least =
    MatchOption least ((decided : DecidedFault) → ¬ (IsOfKind kind faults decided)) (IsLeast kind faults)

-- the first set with a fault of each kind; the kinds are in the order of their numbers, from 1
abbrev pub AreFirstOfKinds : Demands → Disk → List Patch → List (Option ℕ) → Type 0
AreFirstOfKinds demands base patches firsts =
    (kind : FaultKind) → IsFirstOfKind kind demands base patches (slice_index_or firsts (kind_number kind - 1) None)
