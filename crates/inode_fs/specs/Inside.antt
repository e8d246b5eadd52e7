-- Where changes lie.
use Rattle.std.specs.Prelude.{◌≡◌, ℕ, ◌+◌, ◌<◌, ◌≤◌, length}
use Rattle.crash_model.specs.declared.disk_bytes.TheConstants.{BLOCK_SIZE, JOURNAL_AT}
use Rattle.crash_model.specs.Disk.{Disk, block_of}
use Rattle.crash_model.specs.Names.{IsName}
use Rattle.crash_model.specs.declared.plans.Change.{Change}
use Rattle.crash_model.specs.declared.operations.Op.{Op}
use Rattle.crash_model.specs.declared.operations.Op.TheVariants.{Create, Write, Link, Unlink, Rename, Mkdir, Rmdir}
use Rattle.crash_model.specs.declared.operations.Op.TheVariants.{Overwrite, Truncate, Replace}

-- the range of a change is one of a block of a disk with this many blocks, and has a byte
pub record LiesInside (blocks : ℕ) (c : Change) : Type 0 where
  pub block : c.block < blocks
  pub some : 0 < length c.new.items
  pub range : c.offset + length c.new.items ≤ BLOCK_SIZE

-- the journal's blocks are the same
abbrev pub HasSameJournal : Disk → Disk → Type 0
HasSameJournal old new =
    (block : ℕ) → JOURNAL_AT ≤ block → block < JOURNAL_AT + old.journal → block_of new block ≡ block_of old block

-- the name that an operation gives is a name
abbrev pub GivesName : Op → Type 0
GivesName (Create path) = IsName path.last
GivesName (Write path) = Unit {0}
GivesName (Link old new) = IsName new.last
GivesName (Unlink path) = Unit {0}
GivesName (Rename old new) = IsName new.last
GivesName (Mkdir path) = IsName path.last
GivesName (Rmdir path) = Unit {0}
GivesName (Overwrite path slot) = Unit {0}
GivesName (Truncate path) = Unit {0}
GivesName (Replace old new) = IsName new.last
