-- What an image has lost, inode by inode, and what is read of its directories.
use Rattle.std.specs.Prelude.{◌≡◌, ℕ, ◌<◌, ◌↔◌, ◌&&◌, slice_index, Option}
use Rattle.crash_model.specs.declared.disk_bytes.TheConstants.{INODES, DIRECTORY_KIND}
use Rattle.patch_sets.specs.Sets.{Has, has}
use Rattle.crash_model.specs.Disk.{Disk}
use Rattle.crash_model.specs.Layout.{kind_of, is_live}
use Rattle.crash_model.specs.Lists.{when}
use Rattle.crash_model.specs.Strict.{has_entry_to, is_reached, is_lost, lacks_block}
use Rattle.crash_model.specs.declared.fault.Fault.{Fault}
use Rattle.crash_model.specs.declared.fault.Fault.TheVariants.{Lost, NoBlock}
use Rattle.fs_check.specs.declared.clean.Directories.{Directories}

-- an inode as a fault
abbrev pub lost_at : ℕ → Disk → ℕ → Option Fault
lost_at kept d inode = when (is_lost d kept inode) (Lost inode)

abbrev pub bare_at : Disk → ℕ → Option Fault
bare_at d inode = when (lacks_block d inode) (NoBlock inode)

-- the set of the inodes that are reached
abbrev pub IsReachOf : Disk → ℕ → Type 0
IsReachOf d reached = (inode : ℕ) → has reached inode ≡ is_reached d inode

-- the set of the live inodes to which an inode's entries lead
abbrev pub IsNamedBy : Disk → ℕ → ℕ → Type 0
IsNamedBy d dir named = (inode : ℕ) → has named inode ≡ (is_live d inode && has_entry_to d dir inode)

-- that set of each inode, and the set of the directories
pub record AreDirectories (d : Disk) (found : Directories) : Type 0 where
  pub named : (dir : ℕ) → dir < INODES → IsNamedBy d dir (slice_index found.named dir)
  pub inodes : (inode : ℕ) → (Has found.inodes inode ↔ ((inode < INODES) × (kind_of d inode ≡ DIRECTORY_KIND)))
