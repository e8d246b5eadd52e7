-- Generations of inodes and of the marks of blocks. A disk without them has 0 for each.
use Rattle.std.specs.Prelude.{ℕ, ◌+◌, ◌*◌, slice_index, Bool, ◌%◌, if◌then◌else◌}
use Rattle.crash_model.specs.declared.disk_bytes.TheConstants.{INODE_SIZE, GENERATIONS_AT}
use Rattle.crash_model.specs.Disk.{Disk, byte, empty_disk}

-- the same bytes on a disk whose inodes have generations, or none
abbrev pub with_generations : Bool → Disk → Disk
with_generations generations d = record d { generations = generations }

-- a new disk with generations, or without
abbrev pub new_disk : ℕ → ℕ → Bool → Disk
new_disk blocks journal generations = with_generations generations (empty_disk blocks journal)

-- the generations of an inode and of the mark of a block; 0 on a disk without generations
unfoldable pub generation_of : Disk → ℕ → ℕ
generation_of d inode = if d.generations then slice_index d.bytes (GENERATIONS_AT + INODE_SIZE * inode) else 0

unfoldable pub mark_generation : Disk → ℕ → ℕ
mark_generation d block = if d.generations then byte d block 2 else 0

-- the generation after that of an inode; 0 on a disk without generations
unfoldable pub next_generation : Disk → ℕ → ℕ
next_generation d inode = if d.generations then (generation_of d inode + 1) % 256 else 0
