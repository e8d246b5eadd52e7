-- The patches so far.
use Rattle.std.specs.Prelude.{◌≡◌, ℕ, ◌<◌, All, List, [], ◌∷◌, ◌++◌, Bool, ◌&&◌, ◌||◌, ◌==◌, Some, slice_get}
use Rattle.std.specs.Prelude.{IsTrue}
use Rattle.std.specs.List.{list_any}
use Rattle.crash_model.specs.Disk.{Disk, with_bytes}
use Rattle.crash_model.specs.Patches.{Place, places_of}
use Rattle.crash_model.specs.Trace.{Emitted, IsGraphOf, groups_depend, waits_for, applies}
use Rattle.crash_model.specs.Tracing.{trace_start}
use Rattle.crash_model.specs.declared.patches.Patch.{Patch}
use Rattle.crash_model.specs.declared.rules.Rule.{Rule}
use Rattle.crash_model.specs.declared.modules.Module.{Module}
use Rattle.crash_model.specs.declared.orderings.Ordering.{Ordering}
use Rattle.traced_patches.specs.Labels.{emitted_of, emitted_by, links_by}
use Rattle.traced_patches.specs.declared.labels.Label.{Label}
use Rattle.traced_patches.specs.declared.labels.Link.{Link}

pub record Log : Type 0 where
  -- the disk before the patches, and with all of them
  pub base : Disk
  pub written : Disk
  pub kind : Module
  pub rules : List Rule
  -- whether blocks are written whole
  pub whole : Bool
  pub links : List (List ℕ × List ℕ)
  -- the patches with what they are of their operations, and as they are in the graph
  pub emitted : List Emitted
  pub patches : List Patch

-- by what a patch log keeps
abbrev pub log_of : Disk → Disk → Ordering → List Patch → List Label → List Link → Log
log_of base written ordering patches labels links = record {
  base = base;
  written = written;
  kind = ordering.«module»;
  rules = ordering.rules.items;
  whole = ordering.whole_blocks;
  links = links_by links;
  emitted = emitted_by (places_of patches) labels;
  patches = patches;
}

-- the disk with places put one after another
abbrev pub with_places : Disk → List Place → Disk
with_places d [] = d
with_places d (p ∷ ps) = with_places (with_bytes d p.block p.offset p.new) ps

-- the graph is that of the patches
pub record IsLog (log : Log) : Type 0 where
  pub written : log.written ≡ with_places log.base (places_of log.patches)
  pub known : All (λ patch. patch.block < log.base.blocks) log.patches
  pub graph : IsGraphOf log.rules log.base
      (record (trace_start log.whole log.base) { emitted = log.emitted; links = log.links }) log.patches

-- the log is over the same base, by the same ordering
pub record Keeps (old new : Log) : Type 0 where
  pub base : new.base ≡ old.base
  pub kind : new.kind ≡ old.kind
  pub rules : new.rules ≡ old.rules
  pub whole : new.whole ≡ old.whole

-- the log has these further patches, and is otherwise as it was
pub record Adds (old new : Log) (more : List Emitted) : Type 0 where
  pub base : new.base ≡ old.base
  pub kind : new.kind ≡ old.kind
  pub rules : new.rules ≡ old.rules
  pub whole : new.whole ≡ old.whole
  pub links : new.links ≡ old.links
  pub emitted : new.emitted ≡ old.emitted ++ more

-- a label waits for the one with this id
abbrev pub WaitsAt : List Rule → List (List ℕ × List ℕ) → List Label → Label → ℕ → Type 0
WaitsAt rules links labels later id =
    (earlier : Label) × (slice_get labels id ≡ Some earlier)
    × IsTrue (groups_depend links (emitted_of later) (emitted_of earlier) || waits_for (emitted_of later) id
    || list_any (λ rule. applies rule (emitted_of later) (emitted_of earlier)) rules)

-- blocks are written whole, and the patch with this id changes the block
abbrev pub SharesAt : Bool → List Patch → ℕ → ℕ → Type 0
SharesAt whole patches block id =
    (earlier : Patch) × (slice_get patches id ≡ Some earlier) × IsTrue (whole && block == earlier.block)
