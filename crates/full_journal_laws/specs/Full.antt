-- The promise of the full journal.
use Rattle.std.specs.Prelude.{◌≡◌, ℕ, ◌+◌, ◌<◌, ◌≤◌, ◌⊎◌, List, [], ◌∷◌, flat_map, take, Bool, true, false, ◌&&◌}
use Rattle.std.specs.Prelude.{if◌then◌else◌, Ok, Some}
use Rattle.crash_model.specs.declared.disk_bytes.TheConstants.{JOURNAL_AT}
use Rattle.patch_sets.specs.Sets.{has}
use Rattle.patch_sets.specs.Closed.{IsClosed}
use Rattle.crash_model.specs.Disk.{Disk, block_of}
use Rattle.crash_model.specs.Atomic.{shows}
use Rattle.crash_model.specs.Checker.{Demands, promised}
use Rattle.crash_model.specs.Plan.{plan_of}
use Rattle.crash_model.specs.StepDisks.{with_plan}
use Rattle.crash_model.specs.Sound.{IsSound}
use Rattle.crash_model.specs.Patches.{deps_of, image_of}
use Rattle.crash_model.specs.Replay.{image_after_replay}
use Rattle.crash_model.specs.Trace.{Emitted, trace_from}
use Rattle.crash_model.specs.Tracing.{Tracing, trace_start}
use Rattle.crash_model.specs.declared.rules.Part.{Part}
use Rattle.crash_model.specs.declared.rules.Part.TheVariants.{Commit}
use Rattle.crash_model.specs.declared.operations.Op.{Op}
use Rattle.crash_model.specs.declared.patches.Patch.{Patch}
use Rattle.crash_model.specs.declared.steps.Act.{Act}
use Rattle.crash_model.specs.declared.steps.Act.TheVariants.{Do}
use Rattle.crash_model.specs.declared.modules.Module.TheVariants.{Full}
use Rattle.crash_model.specs.declared.steps.Step.{Step}
use Rattle.inode_fs.specs.Inside.{GivesName}

-- the operations of steps, in order
abbrev pub ops_at : Act → List Op
ops_at (Do op) = op ∷ []
ops_at _ = []

abbrev pub ops_of : List Step → List Op
ops_of steps = flat_map (λ x. ops_at x.act) steps

-- what a step does, if it is an operation, gives a name
abbrev pub GivesNames : Step → Type 0
GivesNames step = (op : Op) → step.act ≡ Do op → GivesName op

-- the disk after operations; a refused one changes nothing
abbrev pub after_ops : Disk → List Op → Disk
after_ops d [] = d
after_ops d (op ∷ ops) = after_ops (with_plan d (plan_of d op)) ops

-- a block outside of a journal of jl blocks
abbrev pub IsOutside : ℕ → ℕ → Type 0
IsOutside jl block = (block < JOURNAL_AT) ⊎ (JOURNAL_AT + jl ≤ block)

abbrev pub is_commit : Part → Bool
is_commit Commit = true
is_commit _ = false

-- how many commit patches a set has, of patches of which the first is `id`
abbrev pub commits_from : ℕ → List Emitted → ℕ → ℕ
commits_from id [] set = 0
commits_from id (e ∷ es) set = (if is_commit e.part && has set id then 1 else 0) + commits_from (id + 1) es set

-- what replay makes of the image of a set: outside the journal the base after the first k operations, k being how
-- many commit patches the set has, so that it shows that disk; and it is a sound disk
pub record IsRecovered (base : Disk) (steps : List Step) (s : Tracing) (patches : List Patch) (set : ℕ) : Type 0 where
  pub same : (block : ℕ) → block < base.blocks → IsOutside base.journal block
      → block_of (image_after_replay (image_of base patches set)) block
      ≡ block_of (after_ops base (take (commits_from 0 s.emitted set) (ops_of steps))) block
  pub shown : shows (image_after_replay (image_of base patches set))
      (after_ops base (take (commits_from 0 s.emitted set) (ops_of steps))) ≡ true
  pub sound : IsSound (image_after_replay (image_of base patches set))

-- the patches are those of the steps under the full journal, and replay recovers from every set that a crash can leave
abbrev pub IsFullSafe : Bool → Disk → List Step → List Patch → Type 0
IsFullSafe whole base steps patches =
    (s : Tracing) × (trace_from Full (trace_start whole base) steps ≡ Ok s)
    × ((set : ℕ) → IsClosed (deps_of patches) set → IsRecovered base steps s patches set)

-- no promise counts: none is made, or broken promises are not among the faults that count
abbrev pub CountsNoPromise : Demands → Type 0
CountsNoPromise demands =
    (promised demands.promises ≡ []) ⊎ ((counted : ℕ) × (demands.counted ≡ Some counted) × (has counted 10 ≡ false))
