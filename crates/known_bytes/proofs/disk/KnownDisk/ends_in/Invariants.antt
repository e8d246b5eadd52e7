use Rattle.std.proofs.Common.{◌<◌, ℕ}
use Rattle.patch_sets.specs.Sets.{Has}
use Rattle.crash_model.specs.Layout.{pointer_of}
use Rattle.crash_model.specs.Paths.{child_of}
use Rattle.known_bytes.specs.NamedIn.{AreEndsAt}
use Rattle.known_bytes.proofs.EachValue.{AreTaken}
use Rattle.known_bytes.proofs.disk.KnownDisk.ends_in.Given as goal

abbrev pub invariant-loop-block : goal.invariant-loop-block
invariant-loop-block g l = record {
  within : (inode : ℕ) → Has l.ends.inodes inode → inode < 16;
  taken : AreTaken l.blocks.low l.blocks.high l.block (λ value. AreEndsAt l.self (λ d. pointer_of d l.dir 0) value
      (λ d. child_of d l.dir l.name) l.ends.inodes l.ends.nowhere);
}
