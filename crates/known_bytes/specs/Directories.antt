-- A directory that may or may not count, but whose block is known.
use Rattle.std.specs.Prelude.{◌≡◌, ℕ, Bool, true, ◌&&◌, ◌==◌, Result}
use Rattle.crash_model.specs.declared.disk_bytes.TheConstants.{DIRECTORY_KIND, DIRECTORY_MARK}
use Rattle.crash_model.specs.Disk.{Disk, byte}
use Rattle.crash_model.specs.Layout.{kind_of, pointer_of, is_data, is_owned, counts}
use Rattle.known_bytes.specs.Reading.{Reading, InEachDisk, IsKnown}

-- a directory that counts has this block, which is one of the data area
pub record IsItsBlock (dir block : ℕ) (d : Disk) : Type 0 where
  pub tame : is_data d block ≡ true
  pub only : counts d dir ≡ true → pointer_of d dir 0 ≡ block

-- what is left to show that it counts
abbrev pub counts_at : ℕ → ℕ → Disk → Bool
counts_at dir block d =
    (kind_of d dir == DIRECTORY_KIND && pointer_of d dir 0 == block)
    && (byte d block 0 == DIRECTORY_MARK && is_owned d block dir)

-- of a directory that may count it was found which block it has if it does, and whether it does
pub record IsFound (r : Reading) (dir block : ℕ) (counted : Result Bool ℕ) : Type 0 where
  pub its : InEachDisk r (IsItsBlock dir block)
  pub known : IsKnown r (counts_at dir block) counted
