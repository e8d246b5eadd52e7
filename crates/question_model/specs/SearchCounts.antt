-- What a search finds.
use Rattle.std.specs.Prelude.{ℕ, ◌≤◌, ◌<◌, List, map}
use Rattle.std.specs.List.{All, AllPairs, Contains}
use Rattle.crash_model.specs.Checker.{Demands}
use Rattle.crash_model.specs.FirstSets.{IsFirst}
use Rattle.crash_model.specs.declared.patches.Patch.{Patch}
use Rattle.crash_model.specs.FaultKinds.{kind_number}
use Rattle.crash_model.specs.Refused.{refusal_number}
use Rattle.question_model.specs.Sequences.{CountsSequences, IsFirstSequence}
use Rattle.question_model.specs.Workloads.{Search, HasPatches, IsWorkload, IsFailingWorkload, IsRefusedFor}
use Rattle.question_model.specs.Workloads.{HasKind, ShowsKind}
use Rattle.crash_model.specs.declared.fault_kind.FaultKind.{FaultKind}
use Rattle.question_model.specs.declared.found.SearchCounts.{SearchCounts}
use Rattle.question_model.specs.declared.found.RefusedCount.{RefusedCount}
use Rattle.question_model.specs.declared.found.ShownKind.{ShownKind}
use Rattle.crash_model.specs.declared.refusal.Refusal.{Refusal}

-- how many operations are refused for the reason, at least one
pub record IsCounted (s : Search) (refused : RefusedCount) : Type 0 where
  pub counted : CountsSequences (IsRefusedFor s refused.reason) refused.count
  pub some : 1 ≤ refused.count

-- each reason that comes is there once, in the order of their numbers
pub record AreCounted (s : Search) (refused : List RefusedCount) : Type 0 where
  pub ordered : AllPairs (λ a b. refusal_number a.reason < refusal_number b.reason) refused
  pub each : All (IsCounted s) refused
  pub every : (reason : Refusal) (places : List ℕ) → IsRefusedFor s reason places
      → Contains (map (λ r. r.reason) refused) reason

-- how many workloads show the kind, the first of them, and its first set that has such a fault
pub record IsShown (s : Search) (shown : ShownKind) : Type 0 where
  pub counted : CountsSequences (ShowsKind s shown.kind) shown.workloads
  pub earliest : IsFirstSequence (ShowsKind s shown.kind) shown.places.items
  pub first : (demands : Demands) (patches : List Patch) → HasPatches s shown.places.items demands patches
      → IsFirst (HasKind shown.kind demands s.base patches) shown.first

-- each kind that a workload shows is there once, in the order of their numbers
pub record AreShown (s : Search) (kinds : List ShownKind) : Type 0 where
  pub ordered : AllPairs (λ a b. kind_number a.kind < kind_number b.kind) kinds
  pub each : All (IsShown s) kinds
  pub every : (kind : FaultKind) (places : List ℕ) → ShowsKind s kind places → Contains (map (λ k. k.kind) kinds) kind

-- what is found of a search
pub record AreSearchCounts (s : Search) (found : SearchCounts) : Type 0 where
  pub workloads : CountsSequences (IsWorkload s) found.workloads
  pub failing : CountsSequences (IsFailingWorkload s) found.failing
  pub refused : AreCounted s found.refused.items
  pub kinds : AreShown s found.kinds.items
