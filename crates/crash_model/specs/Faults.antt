-- The six faults of an image, and their order.
use Rattle.std.specs.Prelude.{◌≡◌, ℕ, List, [], ◌++◌, length, Bool, ◌&&◌, ◌||◌, ◌==◌, not, nat_lt, Option}
use Rattle.crash_model.specs.declared.disk_bytes.TheConstants.{INODES, SLOTS, ENTRIES, FILE_KIND, DIRECTORY_KIND}
use Rattle.crash_model.specs.declared.disk_bytes.TheConstants.{FILE_MARK, DIRECTORY_MARK}
use Rattle.crash_model.specs.Disk.{Disk, byte}
use Rattle.crash_model.specs.Layout.{kind_of, links_of, pointer_of, map_of, is_live, is_data, is_entry, target_of}
use Rattle.crash_model.specs.Layout.{is_pointer, is_owned}
use Rattle.crash_model.specs.Lists.{each_below, some_below, when}
use Rattle.crash_model.specs.declared.fault.Fault.{Fault}
use Rattle.crash_model.specs.declared.fault.Fault.TheVariants.{Dangling, Twice, Unwritten, LowLinks, MarkedFree, Wild}

-- what a test finds for each slot, by inode and slot
unfoldable pub each_slot : {X : Type 0} → (ℕ → ℕ → Option X) → List X
each_slot at = each_below INODES (λ inode. some_below SLOTS (at inode))

-- what a test finds for each entry, by directory and place
unfoldable pub each_entry : {X : Type 0} → (ℕ → ℕ → Option X) → List X
each_entry at = each_below INODES (λ dir. some_below ENTRIES (at dir))

-- 1: an entry whose target is no live inode
abbrev pub is_dangling : Disk → ℕ → ℕ → Bool
is_dangling d dir k = is_entry d dir k && not (is_live d (target_of d dir k))

-- a pointer to a block of the data area, and to another
abbrev pub is_tame : Disk → ℕ → ℕ → Bool
is_tame d inode slot = is_pointer d inode slot && is_data d (pointer_of d inode slot)

-- 6: a pointer to no block of the data area
abbrev pub is_wild : Disk → ℕ → ℕ → Bool
is_wild d inode slot = is_pointer d inode slot && not (is_data d (pointer_of d inode slot))

-- a slot that names a block, not wild
abbrev pub names_block : Disk → ℕ → ℕ → ℕ → Bool
names_block d inode slot block = is_tame d inode slot && pointer_of d inode slot == block

-- the pairs of inode and slot that name a block
unfoldable pub namers : Disk → ℕ → List (ℕ × ℕ)
namers d block = each_slot (λ inode slot. when (names_block d inode slot block) (inode, slot))

-- 2: two of them name the block
abbrev pub is_twice : Disk → ℕ → Bool
is_twice d block = nat_lt 1 (length (namers d block))

-- the right mark for the block of an inode of a kind
abbrev pub is_right_mark : ℕ → ℕ → Bool
is_right_mark kind mark = (kind == FILE_KIND && mark == FILE_MARK) || (kind == DIRECTORY_KIND && mark == DIRECTORY_MARK)

-- 3: a pointer, not wild, to a block that is not marked as the inode's
abbrev pub is_unwritten : Disk → ℕ → ℕ → Bool
is_unwritten d inode slot =
    let block = pointer_of d inode slot in
    is_tame d inode slot && not (is_right_mark (kind_of d inode) (byte d block 0) && is_owned d block inode)

-- an entry whose target an inode is
abbrev pub leads_to : Disk → ℕ → ℕ → ℕ → Bool
leads_to d dir k inode = is_entry d dir k && target_of d dir k == inode

-- the pairs of directory and place of the entries that lead to an inode
unfoldable pub entries_to : Disk → ℕ → List (ℕ × ℕ)
entries_to d inode = each_entry (λ dir k. when (leads_to d dir k inode) (dir, k))

-- 4: a live inode with fewer links than entries
abbrev pub has_low_links : Disk → ℕ → Bool
has_low_links d inode = is_live d inode && nat_lt (links_of d inode) (length (entries_to d inode))

-- 5: a pointer, not wild, to a block that the map marks as free
abbrev pub is_marked_free : Disk → ℕ → ℕ → Bool
is_marked_free d inode slot = is_tame d inode slot && map_of d (pointer_of d inode slot) == 0

-- all faults of an image, in order
unfoldable pub faults : Disk → List Fault
faults d =
    each_entry (λ dir k. when (is_dangling d dir k) (Dangling dir k (target_of d dir k)))
    ++ some_below d.blocks (λ block. when (is_twice d block) (Twice block))
    ++ each_slot (λ inode slot. when (is_unwritten d inode slot) (Unwritten inode slot (pointer_of d inode slot)))
    ++ some_below INODES (λ inode.
    when (has_low_links d inode) (LowLinks inode (length (entries_to d inode)) (links_of d inode)))
    ++ each_slot (λ inode slot. when (is_marked_free d inode slot) (MarkedFree inode slot (pointer_of d inode slot)))
    ++ each_slot (λ inode slot. when (is_wild d inode slot) (Wild inode slot (pointer_of d inode slot)))

-- no fault holds
pub record IsClean (d : Disk) : Type 0 where
  pub faultless : faults d ≡ []
