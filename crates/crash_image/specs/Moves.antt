-- Patches put on a disk and taken back.
use Rattle.std.specs.Prelude.{◌≡◌, ℕ, ◌+◌, ◌<◌, List, [], ◌∷◌, if◌then◌else◌}
use Rattle.std.specs.List.{All}
use Rattle.patch_sets.specs.Sets.{Has, has}
use Rattle.patch_sets.specs.Closed.{IsClosed}
use Rattle.patch_graph.specs.Graph.{IsAt, IsGraph}
use Rattle.journal_replay.specs.Changed.{DifferAtMost}
use Rattle.crash_model.specs.Disk.{Disk, IsDisk, with_bytes}
use Rattle.crash_model.specs.Patches.{deps_of, image_of, AreUndo}
use Rattle.crash_model.specs.Replay.{image_after_replay}
use Rattle.crash_model.specs.Checker.{Demands, IsCleanUnder}
use Rattle.crash_model.specs.declared.patches.Patch.{Patch}

-- the disk with the new bytes of a patch, and with the bytes that they replaced
abbrev pub with_patch : Patch → Disk → Disk
with_patch p d = with_bytes d p.block p.offset p.new.items

abbrev pub without_patch : Patch → Disk → Disk
without_patch p d = with_bytes d p.block p.offset p.undo.items

-- the disk with the patches of a set taken back in descending order of their ids, of which the first is `id`
abbrev pub without_patches_from : ℕ → Disk → List Patch → ℕ → Disk
without_patches_from id d [] set = d
without_patches_from id d (p ∷ ps) set =
    if has set id then without_patch p (without_patches_from (id + 1) d ps set) else without_patches_from (id
    + 1) d ps set

-- the disk with the patches of a set taken back
abbrev pub without_set : Disk → List Patch → ℕ → Disk
without_set d patches set = without_patches_from 0 d patches set

-- the patches of a graph change only blocks of the disk, and hold the bytes that they replace
pub record AreOver (base : Disk) (patches : List Patch) : Type 0 where
  pub disk : IsDisk base
  pub graph : IsGraph patches
  pub fits : All (λ p. p.block < base.blocks) patches
  pub undo : AreUndo base patches

-- a base, patches over it, and a set of them
pub record Applied : Type 0 where
  pub base : Disk
  pub patches : List Patch
  pub set : ℕ

-- the patches and the set, over the base of which an image is that of the set
abbrev pub applied_set : Disk → List Patch → ℕ → Applied
applied_set image patches set = record { base = without_set image patches set; patches = patches; set = set }

-- the image is that of a closed set
pub record IsApplied (a : Applied) (image : Disk) : Type 0 where
  pub over : AreOver a.base a.patches
  pub closed : IsClosed (deps_of a.patches) a.set
  pub holds : image ≡ image_of a.base a.patches a.set

-- a base and patches over it, of which a crash can leave some, and what is demanded of the image that it leaves
pub record Crashes : Type 0 where
  pub base : Disk
  pub patches : List Patch
  pub demands : Demands

-- the image that a set leaves is clean after replay
abbrev pub IsGood : Crashes → ℕ → Type 0
IsGood crashes set = IsCleanUnder crashes.demands set (image_after_replay (image_of crashes.base crashes.patches set))

-- a set of blocks has that of each patch of a set
pub record HasBlocks (patches : List Patch) (set blocks : ℕ) : Type 0 where
  pub each : (id : ℕ) (patch : Patch) → Has set id → IsAt patches id patch → Has blocks patch.block

-- the image of a closed set after replay, which differs from the one before in these blocks at most
pub record IsReplayed (a : Applied) (after : Disk) (stale : ℕ) : Type 0 where
  pub is : after ≡ image_after_replay (image_of a.base a.patches a.set)
  pub differ : DifferAtMost stale (image_of a.base a.patches a.set) after
