-- The generation of an inode, as a byte of the disk.
use Rattle.std.specs.Prelude.{ℕ, ◌+◌, ◌*◌, slice_index}
use Rattle.crash_model.specs.declared.disk_bytes.TheConstants.{GENERATIONS_AT, INODE_SIZE}
use Rattle.crash_model.specs.Disk.{Disk}

-- the byte of an inode that has its generation
abbrev pub generation_byte : ℕ → Disk → ℕ
generation_byte inode d = slice_index d.bytes (GENERATIONS_AT + INODE_SIZE * inode)
