-- What is read from the header of a transaction.
use Rattle.std.specs.Prelude.{◌≡◌, ℕ, ◌==◌, Bool, List, slice_index, true}
use Rattle.crash_model.specs.declared.disk_bytes.TheConstants.{COMMITTED_MARK}
use Rattle.crash_model.specs.Disk.{Disk, block_of}
use Rattle.crash_model.specs.Replay.{is_header, targets_of}

-- what replay reads of a header: whether it copies, and the blocks that have copies
pub record Head : Type 0 where
  pub committed : Bool
  pub targets : List ℕ

-- journal block j is the header for transaction t, with these targets, and this is whether replay copies
pub record IsHeaderAt (d : Disk) (j t : ℕ) (header : Head) : Type 0 where
  pub is : is_header d j t (block_of d j) ≡ true
  pub held : header.committed ≡ (slice_index (block_of d j) 0 == COMMITTED_MARK)
  pub targets : header.targets ≡ targets_of (block_of d j)
