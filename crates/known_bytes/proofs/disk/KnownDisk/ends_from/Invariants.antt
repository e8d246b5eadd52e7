use Rattle.std.proofs.Common.{◌≡◌, ◌<◌, ℕ, true}
use Rattle.patch_sets.specs.Sets.{Has}
use Rattle.crash_model.specs.Paths.{child_of}
use Rattle.known_bytes.specs.NamedIn.{AreEnds}
use Rattle.known_bytes.proofs.AtHomes.{AreSeen}
use Rattle.known_bytes.proofs.disk.KnownDisk.ends_from.Given as goal

abbrev pub invariant-loop-dir : goal.invariant-loop-dir
invariant-loop-dir g l = record {
  within : (inode : ℕ) → Has l.ends.inodes inode → inode < 16;
  nowhere : l.fn.here.nowhere ≡ true → l.ends.nowhere ≡ true;
  seen : AreSeen (λ dir. AreEnds l.self (λ d. child_of d dir l.name) l.ends.inodes l.ends.nowhere) l.fn.here.inodes
      l.left;
}

abbrev pub decreases-loop-dir : goal.decreases-loop-dir
decreases-loop-dir g l = l.left
