use Rattle.std.proofs.Common.{◌<◌, ℕ}
use Rattle.patch_sets.specs.Sets.{Has}
use Rattle.known_bytes.specs.NamedIn.{AreEnds, end_by}
use Rattle.known_bytes.proofs.EachValue.{AreTaken}
use Rattle.known_bytes.proofs.disk.KnownDisk.ends_of.Given as goal

abbrev pub invariant-loop-entry : goal.invariant-loop-entry
invariant-loop-entry g l = record {
  within : (inode : ℕ) → Has l.ends.inodes inode → inode < 16;
  taken : AreTaken l.entries.low l.entries.high l.entry
      (λ value. AreEnds l.self (end_by value) l.ends.inodes l.ends.nowhere);
}
