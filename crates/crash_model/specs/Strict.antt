-- What the strict checker finds in addition to the six faults, given the inodes that the script keeps.
use Rattle.std.specs.Prelude.{◌≡◌, ℕ, zero, suc, ◌<◌, List, [], ◌∷◌, ◌++◌, Bool, false, ◌&&◌, ◌||◌, ◌==◌, not}
use Rattle.std.specs.List.{range_with_len, list_any}
use Rattle.crash_model.specs.declared.disk_bytes.TheConstants.{INODES, ENTRIES, DIRECTORY_KIND}
use Rattle.patch_sets.specs.Sets.{has, ids_below}
use Rattle.crash_model.specs.Disk.{Disk}
use Rattle.crash_model.specs.Layout.{kind_of, pointer_of, is_live}
use Rattle.crash_model.specs.Lists.{some_below, when}
use Rattle.crash_model.specs.Faults.{leads_to}
use Rattle.crash_model.specs.declared.fault.Fault.{Fault}
use Rattle.crash_model.specs.declared.fault.Fault.TheVariants.{Lost, NoBlock}
use Rattle.crash_model.specs.declared.steps.Step.{Step}
use Rattle.crash_model.specs.StepDisks.{disk_after}

-- ---- the inodes that a script keeps

-- an inode is live in a disk and in the disk after each of the steps
abbrev pub stays_live : Disk → List Step → ℕ → Bool
stays_live d [] inode = is_live d inode
stays_live d (x ∷ xs) inode = is_live d inode && stays_live (disk_after d x.act) xs inode

-- the set has the inodes that stay live from the base on, and no other
abbrev pub IsKept : Disk → List Step → ℕ → Type 0
IsKept base steps kept = (inode : ℕ) → has kept inode ≡ stays_live base steps inode

-- ---- the inodes that are reached

abbrev pub is_in : List ℕ → ℕ → Bool
is_in inodes inode = list_any (λ i. inode == i) inodes

-- an entry of a directory leads to an inode
abbrev pub has_entry_to : Disk → ℕ → ℕ → Bool
has_entry_to d dir inode = list_any (λ k. leads_to d dir k inode) (range_with_len 0 ENTRIES)

-- the inodes to which entries lead from inode 0, a directory, in at most n steps, each to a live inode
unfoldable pub reach_in : Disk → ℕ → List ℕ
reach_in d zero = ids_below INODES (λ inode. inode == 0 && kind_of d 0 == DIRECTORY_KIND)
reach_in d (suc n) =
    let before = reach_in d n in
    ids_below INODES
    (λ inode. is_in before inode || (is_live d inode && list_any (λ dir. has_entry_to d dir inode) before))

-- each of the 16 inodes that is reached is reached in at most 16 steps
unfoldable pub is_reached : Disk → ℕ → Bool
is_reached d inode = is_in (reach_in d INODES) inode

-- ---- the faults

-- 7: an inode that the script keeps is not reached
abbrev pub is_lost : Disk → ℕ → ℕ → Bool
is_lost d kept inode = has kept inode && not (is_reached d inode)

-- 8: a directory is reached and has no block
abbrev pub lacks_block : Disk → ℕ → Bool
lacks_block d inode = is_reached d inode && kind_of d inode == DIRECTORY_KIND && pointer_of d inode 0 == 0

-- the two by inode
unfoldable pub strict_faults : ℕ → Disk → List Fault
strict_faults kept d =
    some_below INODES (λ inode. when (is_lost d kept inode) (Lost inode))
    ++ some_below INODES (λ inode. when (lacks_block d inode) (NoBlock inode))

-- neither holds of any inode
pub record LosesNothing (kept : ℕ) (d : Disk) : Type 0 where
  pub no_lost : (inode : ℕ) → inode < INODES → is_lost d kept inode ≡ false
  pub no_bare : (inode : ℕ) → inode < INODES → lacks_block d inode ≡ false
