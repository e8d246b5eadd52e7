-- The workloads of a pool: those that fail, and the steps that are refused. A workload is the sequence of its steps'
-- places in the pool.
use Rattle.std.specs.Prelude.{◌≡◌, ◌≢◌, ℕ, ◌<◌, ◌≤◌, ◌⊎◌, List, [], ◌∷◌, ◌++◌, length, filter, flat_map, Bool, true}
use Rattle.std.specs.Prelude.{false, ◌||◌, IsTrue, Some, Result, Ok, Err, slice_get, option_to_list}
use Rattle.std.specs.List.{All}
use Rattle.crash_model.specs.Disk.{Disk}
use Rattle.crash_model.specs.Checker.{Demands, Asked, AreDemands, IsFailingUnder}
use Rattle.crash_model.specs.FirstSets.{HasFault}
use Rattle.crash_model.specs.Trace.{trace_from, IsGraphOf}
use Rattle.crash_model.specs.Tracing.{Tracing, trace_start}
use Rattle.crash_model.specs.declared.fault.Fault.{Fault}
use Rattle.crash_model.specs.declared.modules.Module.{Module}
use Rattle.crash_model.specs.declared.patches.Patch.{Patch}
use Rattle.crash_model.specs.declared.refusals.TraceFault.{TraceFault}
use Rattle.crash_model.specs.declared.rules.Rule.{Rule}
use Rattle.crash_model.specs.declared.steps.Act.{Act}
use Rattle.crash_model.specs.declared.steps.Act.TheVariants.{Do, Sync, Fsync, Keep}
use Rattle.crash_model.specs.declared.steps.Step.{Step}
use Rattle.crash_model.specs.FaultKinds.{kind_of}
use Rattle.crash_model.specs.Refused.{refusal_of}
use Rattle.crash_model.specs.declared.fault_kind.FaultKind.{FaultKind}
use Rattle.crash_model.specs.declared.refusal.Refusal.{Refusal}

-- what a search is asked: the ordering, the checker, the base, the promises that each workload begins with, the pool,
-- and the most steps of a workload
pub record Search : Type 0 where
  pub ordering : Module
  pub rules : List Rule
  -- whether blocks are written whole
  pub whole : Bool
  pub asked : Asked
  pub base : Disk
  pub keeps : List Step
  pub pool : List Step
  pub most : ℕ

-- what workloads are made of: operations, and lines that wait
abbrev pub is_place : Act → Bool
is_place (Do _) = true
is_place Sync = true
is_place (Fsync _) = true
is_place _ = false

-- a promise of each workload
abbrev pub is_keep : Act → Bool
is_keep (Keep _) = true
is_keep _ = false

-- a step that a pool may have; the others are about groups of patches, or promise in another way
abbrev pub IsOfPool : Step → Type 0
IsOfPool step = IsTrue (is_place step.act || is_keep step.act)

abbrev pub places_of : List Step → List Step
places_of steps = filter (λ step. is_place step.act) steps

abbrev pub keeps_of : List Step → List Step
keeps_of steps = filter (λ step. is_keep step.act) steps

-- the steps at these places of a pool
abbrev pub steps_at : List Step → List ℕ → List Step
steps_at pool places = flat_map (λ place. option_to_list (slice_get pool place)) places

-- the steps of a sequence, with the promises before them
abbrev pub workload_at : Search → List ℕ → List Step
workload_at s places = s.keeps ++ steps_at s.pool places

-- the trace of a sequence over the base
abbrev pub trace_at : Search → List ℕ → Result Tracing TraceFault
trace_at s places = trace_from s.ordering (trace_start s.whole s.base) (workload_at s places)

-- the patches of a sequence, and what is demanded of their images
pub record HasPatches (s : Search) (places : List ℕ) (demands : Demands) (patches : List Patch) : Type 0 where
  pub last : Tracing
  pub traced : trace_at s places ≡ Ok last
  pub graph : IsGraphOf s.rules s.base last patches
  pub demanded : AreDemands s.asked s.base (workload_at s places) demands

-- a closed set of its patches fails
abbrev pub Fails : Search → List ℕ → Type 0
Fails s places =
    (demands : Demands) × (patches : List Patch) × HasPatches s places demands patches
    × ((set : ℕ) × IsFailingUnder demands s.base patches set)

-- a workload: some operations of the pool, none of which is refused, and none of whose shorter beginnings fails
pub record IsWorkload (s : Search) (places : List ℕ) : Type 0 where
  pub some : places ≢ []
  pub most : length places ≤ s.most
  pub among : All (λ place. place < length s.pool) places
  pub accepted : (last : Tracing) × (trace_at s places ≡ Ok last)
  pub safe : (front rest : List ℕ) → front ≢ [] → rest ≢ [] → front ++ rest ≡ places → ¬ (Fails s front)

abbrev pub IsFailingWorkload : Search → List ℕ → Type 0
IsFailingWorkload s places = IsWorkload s places × Fails s places

-- what can be made longer: the empty sequence, and each workload that does not fail
abbrev pub IsBeginning : Search → List ℕ → Type 0
IsBeginning s places = (places ≡ []) ⊎ (IsWorkload s places × (¬ (Fails s places)))

-- a beginning and one more operation, which is refused for this reason
pub record IsRefusedFor (s : Search) (reason : Refusal) (places : List ℕ) : Type 0 where
  pub front : List ℕ
  pub place : ℕ
  pub whole : front ++ place ∷ [] ≡ places
  pub beginning : IsBeginning s front
  pub most : length places ≤ s.most
  pub among : place < length s.pool
  pub fault : TraceFault
  pub refused : trace_at s places ≡ Err fault
  pub because : refusal_of fault ≡ Some reason

-- a failing set with a fault of a kind
abbrev pub HasKind : FaultKind → Demands → Disk → List Patch → ℕ → Type 0
HasKind kind demands base patches set =
    (fault : Fault) × HasFault demands base patches fault set × (kind_of fault ≡ kind)

-- a workload that has such a set
pub record ShowsKind (s : Search) (kind : FaultKind) (places : List ℕ) : Type 0 where
  pub workload : IsWorkload s places
  pub demands : Demands
  pub patches : List Patch
  pub traced : HasPatches s places demands patches
  pub set : ℕ
  pub has : HasKind kind demands s.base patches set
