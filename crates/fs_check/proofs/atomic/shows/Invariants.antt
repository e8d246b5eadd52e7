use Rattle.std.proofs.Common.{◌≡◌, ℕ, ◌<◌, true}
use Rattle.std.specs.Prelude.{bytes_eq}
use Rattle.patch_sets.specs.Sets.{Has}
use Rattle.crash_model.specs.Disk.{block_of}
use Rattle.fs_check.proofs.atomic.shows.Given as goal

abbrev pub invariant-loop-block : goal.invariant-loop-block
invariant-loop-block g l =
    (b : ℕ) → b < l.block → Has l.compared b → bytes_eq (block_of l.image b) (block_of l.disk b) ≡ true
