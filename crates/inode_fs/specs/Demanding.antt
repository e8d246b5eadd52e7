-- What steps demand of an image that they leave, step by step.
use Rattle.std.specs.Prelude.{◌≡◌, ℕ, List, [], ◌∷◌, ◌++◌, Bool, ◌&&◌, ◌||◌, Option, Some, None}
use Rattle.patch_sets.specs.Sets.{has}
use Rattle.crash_model.specs.Disk.{Disk}
use Rattle.crash_model.specs.Layout.{is_live}
use Rattle.crash_model.specs.Lists.{when}
use Rattle.crash_model.specs.Atomic.{disks_of}
use Rattle.crash_model.specs.Checker.{Demands, IsKeptIfStrict}
use Rattle.crash_model.specs.StepDisks.{disk_after}
use Rattle.crash_model.specs.declared.steps.Step.{Step}

-- the disk after all of the steps
abbrev pub disk_after_all : Disk → List Step → Disk
disk_after_all d [] = d
disk_after_all d (x ∷ xs) = disk_after_all (disk_after d x.act) xs

-- what the steps so far demand, with a disk for the steps that follow
pub record SoFar : Type 0 where
  pub disk : Option Disk
  pub demands : Demands

-- what is demanded of images alone
abbrev pub image_demands : Option ℕ → Option (List Disk) → Demands
image_demands kept disks = record { kept = kept; disks = disks; promises = None; counted = None }

pub record AreImageDemands (strict atomic : Bool) (base : Disk) (steps : List Step) (demands : Demands) : Type 0 where
  pub kept : IsKeptIfStrict strict base steps demands.kept
  pub disks : demands.disks ≡ when atomic (disks_of base steps)
  pub promises : demands.promises ≡ None
  pub counted : demands.counted ≡ None

-- that is what these steps demand, and the disk after them if anything is demanded
pub record IsSoFar (strict atomic : Bool) (base : Disk) (steps : List Step) (so_far : SoFar) : Type 0 where
  pub disk : so_far.disk ≡ when (strict || atomic) (disk_after_all base steps)
  pub demands : AreImageDemands strict atomic base steps so_far.demands

-- the new one is that of one more step, whatever the steps of the old one are
abbrev pub TakesStep : Step → SoFar → SoFar → Type 0
TakesStep step old new =
    (strict atomic : Bool) (base : Disk) (steps : List Step) → IsSoFar strict atomic base steps old
    → IsSoFar strict atomic base (steps ++ step ∷ []) new

-- what is left of the kept inodes is those that are live in a disk
abbrev pub AreStillKept : Option ℕ → Disk → Option ℕ → Type 0
AreStillKept None d None = Unit {0}
AreStillKept None d (Some left) = ⊥
AreStillKept (Some kept) d None = ⊥
AreStillKept (Some kept) d (Some left) = (inode : ℕ) → has left inode ≡ (has kept inode && is_live d inode)
