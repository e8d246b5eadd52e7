-- The images of a family as they are left or after replay of the journal.
use Rattle.std.specs.Prelude.{◌≡◌, ◌≢◌, ℕ, ◌<◌, List, slice_index, Bool, false, if◌then◌else◌, Result, Ok, Err}
use Rattle.crash_model.specs.declared.disk_bytes.TheConstants.{BLOCK_SIZE}
use Rattle.crash_model.specs.Disk.{Disk, byte}
use Rattle.crash_model.specs.Replay.{image_after_replay}
use Rattle.known_bytes.specs.Family.{Family, InEach, IsUndecided}
use Rattle.known_bytes.specs.Headers.{IsHome}

-- a family, and whether its images are read after replay
pub record Reading : Type 0 where
  pub family : Family
  pub replayed : Bool

abbrev pub disk_of : Reading → Disk → Disk
disk_of r d = if r.replayed then image_after_replay d else d

-- the property holds of each of the disks that are read
abbrev pub InEachDisk : Reading → (Disk → Type 0) → Type 0
InEachDisk r P = InEach r.family (λ d. P (disk_of r d))

-- For each block the one of the image where it is read, and others where it may be read. Each disk has it at one of
-- these. For each block with others, an undecided patch decides at which.
pub record AreHomes (r : Reading) (homes others asks : List ℕ) : Type 0 where
  pub within : (block home : ℕ) → block < r.family.base.blocks → IsHome homes others block home
      → home < r.family.base.blocks
  pub among : InEach r.family (λ d. (block : ℕ) → block < d.blocks → (home : ℕ) × IsHome homes others block home
      × ((offset : ℕ) → offset < BLOCK_SIZE → byte (disk_of r d) block offset ≡ byte d home offset))
  pub asked : (block : ℕ) → block < 128 → slice_index others block ≢ 0 → IsUndecided r.family (slice_index asks block)

-- What is read of the disks at once: what each of them has, or an undecided patch on which it depends.
abbrev pub IsKnown : {X : Type 0} → Reading → (Disk → X) → Result X ℕ → Type 0
IsKnown r what (Ok value) = InEachDisk r (λ d. what d ≡ value)
IsKnown r what (Err id) = IsUndecided r.family id

-- the images as a crash leaves them
abbrev pub left : Family → Reading
left f = record { family = f; replayed = false }
