-- The inodes that are reached, each perhaps on some of the disks only.
use Rattle.std.specs.Prelude.{◌≡◌, ℕ, ◌<◌, ◌&&◌, List, slice_index, Bool, true, false}
use Rattle.crash_model.specs.declared.disk_bytes.TheConstants.{INODES}
use Rattle.patch_sets.specs.Sets.{Has}
use Rattle.crash_model.specs.Disk.{Disk}
use Rattle.crash_model.specs.Layout.{is_live}
use Rattle.crash_model.specs.Strict.{has_entry_to, is_reached}
use Rattle.known_bytes.specs.Family.{IsUndecided}
use Rattle.known_bytes.specs.Reading.{Reading, InEachDisk}

-- an entry of a directory leads to an inode in use
abbrev pub names_live : ℕ → ℕ → Disk → Bool
names_live dir inode d = is_live d inode && has_entry_to d dir inode

-- Each disk reaches the inodes of the first set. Whether it reaches the others of the second set depends on undecided
-- patches.
pub record IsReach (r : Reading) (sure may : ℕ) (asks : List ℕ) : Type 0 where
  pub sound : (inode : ℕ) → Has sure inode → InEachDisk r (λ d. is_reached d inode ≡ true)
  pub within : (inode : ℕ) → Has sure inode → Has may inode
  pub few : (inode : ℕ) → Has may inode → inode < INODES
  pub asked : (inode : ℕ) → Has may inode → ¬ (Has sure inode) → IsUndecided r.family (slice_index asks inode)

-- no disk reaches an inode outside the set
abbrev pub ReachesNoOther : Reading → ℕ → Type 0
ReachesNoOther r may = (inode : ℕ) → ¬ (Has may inode) → InEachDisk r (λ d. is_reached d inode ≡ false)

-- no entry of a directory leads to an inode in use outside the set
abbrev pub NamesNoOther : Reading → ℕ → ℕ → Type 0
NamesNoOther r dir may = (inode : ℕ) → ¬ (Has may inode) → InEachDisk r (λ d. names_live dir inode d ≡ false)
