-- Headers that may or may not be there, but whose contents are known.
use Rattle.std.specs.Prelude.{◌≡◌, ◌≢◌, ℕ, zero, suc, ◌+◌, ◌<◌, ◌≤◌, List, length, slice_index, Bool, true, false}
use Rattle.std.specs.Prelude.{◌&&◌, ◌==◌, nat_le, ◌⊎◌, Result, Ok}
use Rattle.patch_sets.specs.Sets.{Has}
use Rattle.std.specs.List.{list_all}
use Rattle.crash_model.specs.declared.disk_bytes.TheConstants.{JOURNAL_AT}
use Rattle.crash_model.specs.Disk.{Disk, byte, block_of}
use Rattle.crash_model.specs.Replay.{is_header, is_target, is_ascending, targets_of}
use Rattle.known_bytes.specs.Family.{Family, InEach}

-- no image has a header in a journal block
abbrev pub HasNoHeader : Family → ℕ → Type 0
HasNoHeader f at = InEach f (λ d. (transaction : ℕ) → is_header d at transaction (block_of d at) ≡ false)

-- where an image has one there, these are its targets
abbrev pub HasTargets : Family → ℕ → List ℕ → Type 0
HasTargets f at targets =
    InEach f (λ d. (transaction : ℕ) → is_header d at transaction (block_of d at) ≡ true
    → targets_of (block_of d at) ≡ targets)

-- a header may have these targets in a journal block
abbrev pub may_have : Disk → ℕ → List ℕ → Bool
may_have d at targets =
    nat_le (at + length targets) (3 + d.journal) && is_ascending targets && list_all (is_target d) targets

-- a block has the number of targets, and the first n of them
unfoldable pub has_first : ℕ → Disk → ℕ → List ℕ → Bool
has_first zero d at targets = byte d at 2 == length targets
has_first (suc n) d at targets = has_first n d at targets && byte d at (3 + n) == slice_index targets n

-- one of the first n blocks of a list
abbrev pub IsAmong : List ℕ → ℕ → ℕ → Type 0
IsAmong blocks n block = (k : ℕ) × (k < n) × (slice_index blocks k ≡ block)

-- the homes after the targets of a header were read from the blocks from `first` on
pub record AreSet (old new : List ℕ) (first : ℕ) (targets : List ℕ) : Type 0 where
  pub found : (block m : ℕ) → m < length targets → slice_index targets m ≡ block
      → ((k : ℕ) → k < m → slice_index targets k ≢ block) → slice_index new block ≡ first + m
  pub others : (block : ℕ) → ((k : ℕ) → k < length targets → slice_index targets k ≢ block)
      → slice_index new block ≡ slice_index old block

-- a block may be read at its home, or at one of the others that it may have
abbrev pub IsHome : List ℕ → List ℕ → ℕ → ℕ → Type 0
IsHome homes others block home = (home ≡ slice_index homes block) ⊎ Has (slice_index others block) home

-- The homes after a header, by whether it is known that replay copies its targets. A block keeps its homes unless it is
-- surely copied. A target may be read at its copy, from the block `first` on, unless none is copied.
pub record AreNoted (copied : Result Bool ℕ) (homes others new more : List ℕ) (first : ℕ) (targets : List ℕ)
    : Type 0 where
  pub kept : (block home : ℕ) → (copied ≢ Ok true) ⊎ (¬ (IsAmong targets (length targets) block))
      → IsHome homes others block home → IsHome new more block home
  pub added : (block m : ℕ) → copied ≢ Ok false → m < length targets → slice_index targets m ≡ block
      → ((k : ℕ) → k < m → slice_index targets k ≢ block) → IsHome new more block (first + m)
  pub within : (block home : ℕ) → IsHome new more block home
      → IsHome homes others block home ⊎ ((first ≤ home) × (home < first + length targets))

-- the first n targets may be read from the blocks from `first` on too
pub record AreAdded (old new : List ℕ) (first : ℕ) (targets : List ℕ) (n : ℕ) : Type 0 where
  pub kept : (block home : ℕ) → Has (slice_index old block) home → Has (slice_index new block) home
  pub added : (m : ℕ) → m < n → Has (slice_index new (slice_index targets m)) (first + m)
  pub within : (block home : ℕ) → Has (slice_index new block) home
      → Has (slice_index old block) home ⊎ ((first ≤ home) × (home < first + n))
  pub others : (block : ℕ) → IsAmong targets n block ⊎ (slice_index new block ≡ slice_index old block)

-- a block before this one names a block where a header would that has its copy here
pub record IsCopyOf (d : Disk) (block at : ℕ) : Type 0 where
  pub header : ℕ
  pub place : ℕ
  pub from : JOURNAL_AT ≤ header
  pub few : place < 8
  pub behind : at ≡ header + 1 + place
  pub names : byte d header (3 + place) ≡ block
