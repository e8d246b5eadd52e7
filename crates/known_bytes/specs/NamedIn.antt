-- The entries of a block, read as those of a directory.
use Rattle.std.specs.Prelude.{◌≡◌, ℕ, zero, suc, ◌+◌, ◌-◌, ◌*◌, List, slice_index, take, drop, Bool, true, ◌&&◌, ◌==◌}
use Rattle.std.specs.Prelude.{not, bytes_eq, Option, None, MatchOption}
use Rattle.std.specs.Option.{option_or}
use Rattle.patch_sets.specs.Sets.{Has}
use Rattle.crash_model.specs.declared.disk_bytes.TheConstants.{BLOCK_SIZE, SPELLING_SIZE}
use Rattle.crash_model.specs.Disk.{Disk, byte}
use Rattle.crash_model.specs.Layout.{is_live, entry_offset}
use Rattle.crash_model.specs.Lists.{when}
use Rattle.known_bytes.specs.Reading.{Reading, InEachDisk}

-- the first n bytes of a block from an offset on are those of a list
abbrev pub has_bytes : ℕ → ℕ → ℕ → List ℕ → Disk → Bool
has_bytes zero block from bytes d = true
has_bytes (suc n) block from bytes d = has_bytes n block from bytes d && byte d block (from + n) == slice_index bytes n

-- an entry has the spelling of a name
abbrev pub is_spelled_in : ℕ → ℕ → List ℕ → Disk → Bool
is_spelled_in block k spelled d =
    bytes_eq (take SPELLING_SIZE (drop (BLOCK_SIZE * block + entry_offset k + 1) d.bytes)) spelled

-- an entry leads to a live inode
abbrev pub leads_in : ℕ → ℕ → Disk → Bool
leads_in block k d = not (byte d block (entry_offset k) == 0) && is_live d (byte d block (entry_offset k) - 1)

-- the live inode that an entry with this as byte 0 leads to
abbrev pub end_by : ℕ → Disk → Option ℕ
end_by entry d = when (not (entry == 0) && is_live d (entry - 1)) (entry - 1)

-- the live inode that an entry leads to, and the same of an entry that has the spelling of a name
abbrev pub end_in : ℕ → ℕ → Disk → Option ℕ
end_in block k d = when (leads_in block k d) (byte d block (entry_offset k) - 1)

abbrev pub child_in : ℕ → ℕ → List ℕ → Disk → Option ℕ
child_in block k spelled d =
    when (leads_in block k d && is_spelled_in block k spelled d) (byte d block (entry_offset k) - 1)

-- that of the first of the first n entries that leads to one
unfoldable pub first_child_in : ℕ → ℕ → List ℕ → Disk → Option ℕ
first_child_in zero block spelled d = None
first_child_in (suc n) block spelled d = option_or (first_child_in n block spelled d) (child_in block n spelled d)

-- something leads to an inode of a set, or nowhere if it may
abbrev pub IsEnd : Option ℕ → ℕ → Bool → Type 0
IsEnd end inodes nowhere = MatchOption end (nowhere ≡ true) (λ inode. Has inodes inode)

-- on each disk, and on each of those where a byte has a value
abbrev pub AreEnds : Reading → (Disk → Option ℕ) → ℕ → Bool → Type 0
AreEnds r end inodes nowhere = InEachDisk r (λ d. IsEnd (end d) inodes nowhere)

abbrev pub AreEndsAt : Reading → (Disk → ℕ) → ℕ → (Disk → Option ℕ) → ℕ → Bool → Type 0
AreEndsAt r at value end inodes nowhere = InEachDisk r (λ d. at d ≡ value → IsEnd (end d) inodes nowhere)
