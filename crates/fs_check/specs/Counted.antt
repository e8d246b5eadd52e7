-- That there is no fault of some numbers, which are given as a set: only those count.
use Rattle.std.specs.Prelude.{◌≡◌, ℕ, ◌<◌, [], Bool, false, Option, Some, None}
use Rattle.patch_sets.specs.Sets.{Has}
use Rattle.crash_model.specs.declared.disk_bytes.TheConstants.{INODES, SLOTS, ENTRIES}
use Rattle.crash_model.specs.Disk.{Disk}
use Rattle.crash_model.specs.Faults.{is_dangling, is_twice, is_unwritten, has_low_links, is_marked_free, is_wild}
use Rattle.crash_model.specs.Strict.{is_lost, lacks_block}
use Rattle.crash_model.specs.Atomic.{ShowsSome}
use Rattle.crash_model.specs.BrokenLines.{broken_lines}
use Rattle.crash_model.specs.Checker.{Demands, IsCleanKeeping, promised}
use Rattle.fs_check.specs.declared.list.Test.{Test}
use Rattle.fs_check.specs.declared.list.Test.TheVariants.{IsUnwritten, IsMarkedFree, IsWild}

-- ---- what a test finds nowhere

abbrev pub InNoSlot : (ℕ → ℕ → Bool) → Type 0
InNoSlot test = (inode : ℕ) → inode < INODES → (slot : ℕ) → slot < SLOTS → test inode slot ≡ false

abbrev pub InNoEntry : (ℕ → ℕ → Bool) → Type 0
InNoEntry test = (dir : ℕ) → dir < INODES → (k : ℕ) → k < ENTRIES → test dir k ≡ false

-- the slots of which a test of a pointer finds a fault
abbrev pub fails : Disk → Test → ℕ → ℕ → Bool
fails d IsUnwritten = is_unwritten d
fails d IsMarkedFree = is_marked_free d
fails d IsWild = is_wild d

-- nor at a number below another
abbrev pub AtNoneBelow : ℕ → (ℕ → Bool) → Type 0
AtNoneBelow n test = (k : ℕ) → k < n → test k ≡ false

-- ---- no fault

-- of the entries
pub record HasNoEntryFault (counted : ℕ) (d : Disk) : Type 0 where
  pub dangling : Has counted 1 → InNoEntry (is_dangling d)
  pub low_links : Has counted 4 → AtNoneBelow INODES (has_low_links d)

-- of each pointer by itself
pub record HasRightPointers (counted : ℕ) (d : Disk) : Type 0 where
  pub unwritten : Has counted 3 → InNoSlot (is_unwritten d)
  pub marked_free : Has counted 5 → InNoSlot (is_marked_free d)
  pub wild : Has counted 6 → InNoSlot (is_wild d)

-- of the pointers, and of the blocks that they name
pub record HasNoPointerFault (counted : ℕ) (d : Disk) : Type 0 where
  pub twice : Has counted 2 → AtNoneBelow d.blocks (is_twice d)
  pub right : HasRightPointers counted d

-- of the inodes that a script keeps, and of the directories that are reached
pub record HasNoLoss (counted kept : ℕ) (d : Disk) : Type 0 where
  pub lost : Has counted 7 → AtNoneBelow INODES (is_lost d kept)
  pub bare : Has counted 8 → AtNoneBelow INODES (lacks_block d)

-- a script may keep none
abbrev pub HasNoLossOf : ℕ → Option ℕ → Disk → Type 0
HasNoLossOf counted None d = Unit {0}
HasNoLossOf counted (Some kept) d = HasNoLoss counted kept d

-- of a disk
pub record HasNoDiskFault (counted : ℕ) (demands : Demands) (d : Disk) : Type 0 where
  pub entries : HasNoEntryFault counted d
  pub pointers : HasNoPointerFault counted d
  pub tree : HasNoLossOf counted demands.kept d
  pub whole : Has counted 9 → ShowsSome demands.disks d

-- of a set, whose image after replay this is
pub record HasNoFault (counted : ℕ) (demands : Demands) (set : ℕ) (d : Disk) : Type 0 where
  pub disk : HasNoDiskFault counted demands d
  pub kept : Has counted 10 → broken_lines (promised demands.promises) set d ≡ []

-- the same where all faults count
pub record IsCleanOfAll (demands : Demands) (set : ℕ) (d : Disk) : Type 0 where
  pub keeping : IsCleanKeeping demands.kept d
  pub whole : ShowsSome demands.disks d
  pub kept : broken_lines (promised demands.promises) set d ≡ []
