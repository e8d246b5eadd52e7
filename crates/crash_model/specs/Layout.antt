-- What the bytes of a disk mean. Inodes are in blocks 2 and 3, 16 bytes each, so inode i begins at byte 256 + 16 * i.
use Rattle.std.specs.Prelude.{ℕ, ◌+◌, ◌-◌, ◌*◌, ◌/◌, ◌%◌, List, take, drop, slice_index, Bool, ◌&&◌, ◌==◌, not, nat_le}
use Rattle.std.specs.Prelude.{nat_lt}
use Rattle.crash_model.specs.declared.disk_bytes.TheConstants.{BLOCK_SIZE, MAP_AT, INODE_BLOCK, JOURNAL_AT, INODES}
use Rattle.crash_model.specs.declared.disk_bytes.TheConstants.{INODES_IN_BLOCK, INODE_SIZE, KINDS_AT, LINKS_AT}
use Rattle.crash_model.specs.declared.disk_bytes.TheConstants.{POINTERS_AT, ENTRIES_FROM, ENTRY_SIZE, SPELLING_SIZE}
use Rattle.crash_model.specs.declared.disk_bytes.TheConstants.{FREE_KIND, DIRECTORY_KIND, DIRECTORY_MARK}
use Rattle.crash_model.specs.Disk.{Disk, byte}
use Rattle.crash_model.specs.Generations.{generation_of, mark_generation}

-- 0 free, 1 file, 2 directory
abbrev pub kind_of : Disk → ℕ → ℕ
kind_of d inode = slice_index d.bytes (KINDS_AT + INODE_SIZE * inode)

abbrev pub links_of : Disk → ℕ → ℕ
links_of d inode = slice_index d.bytes (LINKS_AT + INODE_SIZE * inode)

-- the block in a slot, or 0
abbrev pub pointer_of : Disk → ℕ → ℕ → ℕ
pointer_of d inode slot = slice_index d.bytes (POINTERS_AT + INODE_SIZE * inode + slot)

-- a block's mark names the inode, and is of its generation
abbrev pub is_owned : Disk → ℕ → ℕ → Bool
is_owned d block inode = byte d block 1 == inode && mark_generation d block == generation_of d inode

-- the allocation map's byte of a block
abbrev pub map_of : Disk → ℕ → ℕ
map_of d block = slice_index d.bytes (MAP_AT + block)

-- inodes 0 to 15 whose kind is not 0
abbrev pub is_live : Disk → ℕ → Bool
is_live d inode = nat_lt inode INODES && not (kind_of d inode == FREE_KIND)

-- a block of the data area
abbrev pub is_data : Disk → ℕ → Bool
is_data d block = nat_le (JOURNAL_AT + d.journal) block && nat_lt block d.blocks

-- a directory whose slot 0 names a block of the data area that is marked as its own
abbrev pub counts : Disk → ℕ → Bool
counts d dir =
    let block = pointer_of d dir 0 in
    kind_of d dir == DIRECTORY_KIND && is_data d block && byte d block 0 == DIRECTORY_MARK && is_owned d block dir

-- the block of an inode, and where it begins there
abbrev pub inode_block : ℕ → ℕ
inode_block inode = INODE_BLOCK + inode / INODES_IN_BLOCK

abbrev pub inode_offset : ℕ → ℕ
inode_offset inode = INODE_SIZE * (inode % INODES_IN_BLOCK)

-- where entry k of a directory begins in its block
abbrev pub entry_offset : ℕ → ℕ
entry_offset k = ENTRIES_FROM + ENTRY_SIZE * k

-- byte 0 of entry k: 0, or the inode's number + 1
abbrev pub entry_of : Disk → ℕ → ℕ → ℕ
entry_of d dir k = byte d (pointer_of d dir 0) (entry_offset k)

-- an entry of a directory that counts, which is not free
abbrev pub is_entry : Disk → ℕ → ℕ → Bool
is_entry d dir k = counts d dir && not (entry_of d dir k == 0)

-- the inode that an entry names
abbrev pub target_of : Disk → ℕ → ℕ → ℕ
target_of d dir k = entry_of d dir k - 1

-- an entry's name with its length before it and zeros after it
abbrev pub spelling_of : Disk → ℕ → ℕ → List ℕ
spelling_of d dir k = take SPELLING_SIZE (drop (BLOCK_SIZE * pointer_of d dir 0 + entry_offset k + 1) d.bytes)

-- a slot of a live inode that is not 0
abbrev pub is_pointer : Disk → ℕ → ℕ → Bool
is_pointer d inode slot = is_live d inode && not (pointer_of d inode slot == 0)
