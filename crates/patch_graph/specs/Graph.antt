-- A graph of patches as the list of its patches. A patch's id is its place, from 0 on.
use Rattle.std.specs.Prelude.{◌≡◌, ℕ, ◌+◌, ◌<◌, ◌≤◌, ◌⊎◌, ◌↔◌, List, length, Some, slice_get}
use Rattle.std.specs.List.{All}
use Rattle.crash_model.specs.declared.disk_bytes.TheConstants.{BLOCK_SIZE}
use Rattle.patch_sets.specs.Sets.{Has}
use Rattle.patch_sets.specs.Closed.{AreEarlier}
use Rattle.crash_model.specs.declared.patches.TheConstants.{MAX_PATCHES}
use Rattle.crash_model.specs.Patches.{deps_of}
use Rattle.crash_model.specs.declared.patches.Patch.{Patch}

-- the patch of an id
abbrev pub IsAt : List Patch → ℕ → Patch → Type 0
IsAt patches id patch = slice_get patches id ≡ Some patch

-- at least one byte, all within the block, and as many bytes of undo data
pub record IsPatch (p : Patch) : Type 0 where
  pub some : 0 < length p.new.items
  pub undone : length p.undo.items ≡ length p.new.items
  pub inside : p.offset + length p.new.items ≤ BLOCK_SIZE

-- two patches of one block whose ranges share a byte
pub record Overlaps (p q : Patch) : Type 0 where
  pub together : p.block ≡ q.block
  pub below : p.offset < q.offset + length q.new.items
  pub above : q.offset < p.offset + length p.new.items

-- a patch overlaps the one with this id
abbrev pub OverlapsAt : List Patch → Patch → ℕ → Type 0
OverlapsAt patches patch id = (earlier : Patch) × IsAt patches id earlier × Overlaps earlier patch

-- what each graph keeps
pub record IsGraph (patches : List Patch) : Type 0 where
  pub few : length patches ≤ MAX_PATCHES
  pub each : All IsPatch patches
  pub earlier : AreEarlier (deps_of patches)
  pub ordered : (p q : ℕ) (later : Patch) → p < q → IsAt patches q later → OverlapsAt patches later p → Has later.deps p

-- the patch with each one that it overlaps among its dependencies
pub record AddsOverlaps (patches : List Patch) (patch added : Patch) : Type 0 where
  pub block : added.block ≡ patch.block
  pub offset : added.offset ≡ patch.offset
  pub new : added.new ≡ patch.new
  pub undo : added.undo ≡ patch.undo
  pub deps : (id : ℕ) → Has added.deps id ↔ (Has patch.deps id ⊎ OverlapsAt patches patch id)
