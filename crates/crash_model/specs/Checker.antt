-- The checker: what is demanded of an image, and all faults that it has.
use Rattle.std.specs.Prelude.{◌≡◌, ℕ, List, [], ◌++◌, filter, Bool, Option, Some, None, true, false}
use Rattle.patch_sets.specs.Sets.{has}
use Rattle.patch_sets.specs.Closed.{IsClosed}
use Rattle.crash_model.specs.Disk.{Disk}
use Rattle.crash_model.specs.Lists.{when}
use Rattle.crash_model.specs.Patches.{deps_of, image_of}
use Rattle.crash_model.specs.Replay.{image_after_replay}
use Rattle.crash_model.specs.Faults.{faults}
use Rattle.crash_model.specs.Strict.{strict_faults, IsKept}
use Rattle.crash_model.specs.Atomic.{disks_of, atomic_faults}
use Rattle.crash_model.specs.FaultKinds.{fault_number}
use Rattle.crash_model.specs.Promises.{Promise, promises_of}
use Rattle.crash_model.specs.BrokenLines.{broken_lines}
use Rattle.crash_model.specs.declared.fault.Fault.{Fault}
use Rattle.crash_model.specs.declared.modules.Module.{Module}
use Rattle.crash_model.specs.declared.patches.Patch.{Patch}
use Rattle.crash_model.specs.declared.steps.Step.{Step}

-- what is demanded besides that none of the six faults holds: that no path to these inodes is lost, if the checker is
-- strict; that the image shows one of these disks, if operations are to be atomic; and that no promise is broken, if a
-- line of the script waits or promises
pub record Demands : Type 0 where
  pub kept : Option ℕ
  pub disks : Option (List Disk)
  pub promises : Option (List Promise)
  -- the numbers of the faults that count, as a set, if not all count
  pub counted : Option ℕ

-- what a checker is asked for: whether it is strict, whether operations are to be atomic, whether each fsync promises,
-- and which faults count; whether a line of the script waits or promises, and the module, which says what fsyncs force
pub record Asked : Type 0 where
  pub strict : Bool
  pub atomic : Bool
  pub durable : Bool
  pub counted : Option ℕ
  pub promising : Bool
  pub kind : Module

-- which inodes are demanded: none, or of a strict checker those that the script keeps
abbrev pub IsKeptIfStrict : Bool → Disk → List Step → Option ℕ → Type 0
IsKeptIfStrict strict base steps None = strict ≡ false
IsKeptIfStrict strict base steps (Some kept) = (strict ≡ true) × IsKept base steps kept

-- what a script demands of the sets that a crash leaves of it
pub record AreDemands (asked : Asked) (base : Disk) (steps : List Step) (demands : Demands) : Type 0 where
  pub kept : IsKeptIfStrict asked.strict base steps demands.kept
  pub disks : demands.disks ≡ when asked.atomic (disks_of base steps)
  pub promises : demands.promises ≡ when asked.promising (promises_of asked.kind asked.durable base steps)
  pub counted : demands.counted ≡ asked.counted

-- the promises that there are
abbrev pub promised : Option (List Promise) → List Promise
promised None = []
promised (Some promises) = promises

-- ---- the faults, in order

-- the six, and the two of inodes that the script keeps
abbrev pub faults_keeping : Option ℕ → Disk → List Fault
faults_keeping None d = faults d
faults_keeping (Some kept) d = faults d ++ strict_faults kept d

-- and the one of whole operations after the others
abbrev pub faults_showing : Option (List Disk) → Disk → List Fault → List Fault
faults_showing None d found = found
faults_showing (Some disks) d found = found ++ atomic_faults disks d

-- all faults of a set, whose image after replay this is
abbrev pub all_faults : Demands → ℕ → Disk → List Fault
all_faults demands set d =
    faults_showing demands.disks d (faults_keeping demands.kept d) ++ broken_lines (promised demands.promises) set d

-- those that count
abbrev pub counted_among : Option ℕ → List Fault → List Fault
counted_among None found = found
counted_among (Some counted) found = filter (λ f. has counted (fault_number f)) found

abbrev pub faults_under : Demands → ℕ → Disk → List Fault
faults_under demands set d = counted_among demands.counted (all_faults demands set d)

-- ---- what fails

-- none of the six faults holds, and neither of the two if the checker is strict
pub record IsCleanKeeping (kept : Option ℕ) (d : Disk) : Type 0 where
  pub faultless : faults_keeping kept d ≡ []

-- no fault holds of a set, whose image after replay this is
pub record IsCleanUnder (demands : Demands) (set : ℕ) (d : Disk) : Type 0 where
  pub faultless : faults_under demands set d ≡ []

-- a closed set that is not clean after replay
pub record IsFailingUnder (demands : Demands) (base : Disk) (patches : List Patch) (set : ℕ) : Type 0 where
  pub closed : IsClosed (deps_of patches) set
  pub unclean : ¬ (IsCleanUnder demands set (image_after_replay (image_of base patches set)))
