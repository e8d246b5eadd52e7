use Rattle.std.proofs.Common.{◌<◌, ℕ, take}
use Rattle.std.specs.Prelude.{Some}
use Rattle.patch_sets.specs.Sets.{Has}
use Rattle.crash_model.specs.Paths.{end_of}
use Rattle.known_bytes.specs.NamedIn.{AreEnds}
use Rattle.known_bytes.proofs.disk.KnownDisk.ends_of_path.Given as goal

abbrev pub invariant-loop-name : goal.invariant-loop-name
invariant-loop-name g l = record {
  within : (inode : ℕ) → Has l.here.inodes inode → inode < 16;
  ends : AreEnds l.self (λ d. end_of d (Some 0) (take l.name-index l.path.through.items)) l.here.inodes l.here.nowhere;
}
