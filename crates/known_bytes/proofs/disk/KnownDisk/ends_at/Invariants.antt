use Rattle.std.proofs.Common.{◌<◌, ℕ, true}
use Rattle.patch_sets.specs.Sets.{Has}
use Rattle.known_bytes.specs.NamedIn.{AreEnds, first_child_in}
use Rattle.known_bytes.proofs.disk.KnownDisk.ends_at.Given as goal

abbrev pub invariant-loop-k : goal.invariant-loop-k
invariant-loop-k g l = record {
  within : (inode : ℕ) → Has l.inodes inode → inode < 16;
  ends : AreEnds l.self (first_child_in l.k l.block l.spelled) l.inodes true;
}
