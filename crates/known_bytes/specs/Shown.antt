-- Disks that agree on some blocks of another disk.
use Rattle.std.specs.Prelude.{ℕ, zero, suc, Bool, true, ◌&&◌, ◌||◌, ◌==◌, not, bytes_eq}
use Rattle.crash_model.specs.Disk.{Disk, byte, block_of}
use Rattle.crash_model.specs.Atomic.{is_compared}

-- the first n bytes of a block are the same
abbrev pub agrees : ℕ → ℕ → Disk → Disk → Bool
agrees zero block disk d = true
agrees (suc n) block disk d = agrees n block disk d && byte d block n == byte disk block n

-- of the first n blocks each that is compared is the same
abbrev pub shows_below : ℕ → Disk → Disk → Bool
shows_below zero disk d = true
shows_below (suc n) disk d =
    shows_below n disk d && (not (is_compared disk n) || bytes_eq (block_of d n) (block_of disk n))
