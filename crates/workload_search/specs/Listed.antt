-- From what is counted to what is found.
use Rattle.std.specs.Prelude.{◌≡◌, ℕ, ◌<◌, ◌≤◌, List, map, Some, slice_index, slice_index_or}
use Rattle.std.specs.List.{All, AllPairs, Contains}
use Rattle.crash_model.specs.FaultKinds.{kind_number}
use Rattle.crash_model.specs.Refused.{refusal_number}
use Rattle.crash_model.specs.declared.fault_kind.FaultKind.{FaultKind}
use Rattle.question_model.specs.declared.found.SearchCounts.{SearchCounts}
use Rattle.question_model.specs.declared.found.RefusedCount.{RefusedCount}
use Rattle.question_model.specs.declared.found.ShownKind.{ShownKind}
use Rattle.crash_model.specs.declared.refusal.Refusal.{Refusal}
use Rattle.workload_search.specs.Tallies.{reason_place, kind_place, listed_first}
use Rattle.workload_search.specs.declared.kinds.KindTally.{KindTally}
use Rattle.workload_search.specs.declared.tally.SearchTally.{SearchTally}

-- a reason that comes, with its count
pub record IsListedReason (counts : List ℕ) (refused : RefusedCount) : Type 0 where
  pub count : refused.count ≡ slice_index counts (reason_place refused.reason)
  pub some : 1 ≤ refused.count

-- each reason with a count, in the order of their numbers
pub record AreListedReasons (counts : List ℕ) (refused : List RefusedCount) : Type 0 where
  pub ordered : AllPairs (λ a b. refusal_number a.reason < refusal_number b.reason) refused
  pub each : All (IsListedReason counts) refused
  pub every : (reason : Refusal) → 1 ≤ slice_index counts (reason_place reason)
      → Contains (map (λ r. r.reason) refused) reason

-- a kind that is shown, with its count and its first workload
pub record IsListedKindTally (kinds : List KindTally) (shown : ShownKind) : Type 0 where
  pub workloads : (d : KindTally) → shown.workloads ≡ (slice_index_or kinds (kind_place shown.kind) d).workloads
  pub first : (d : KindTally)
      → listed_first (slice_index_or kinds (kind_place shown.kind) d).first ≡ Some (shown.places.items, shown.first)

-- each kind that is shown, in the order of their numbers
pub record AreListedKinds (kinds : List KindTally) (shown : List ShownKind) : Type 0 where
  pub ordered : AllPairs (λ a b. kind_number a.kind < kind_number b.kind) shown
  pub each : All (IsListedKindTally kinds) shown
  pub every : (kind : FaultKind) (d : KindTally) (first : List ℕ × ℕ)
      → listed_first (slice_index_or kinds (kind_place kind) d).first ≡ Some first
      → Contains (map (λ k. k.kind) shown) kind

pub record IsListedTally {A : Type 0} (tally : SearchTally A) (found : SearchCounts) : Type 0 where
  pub workloads : found.workloads ≡ tally.workloads
  pub failing : found.failing ≡ tally.failing
  pub refused : AreListedReasons tally.refused found.refused.items
  pub kinds : AreListedKinds tally.kinds.items found.kinds.items
