use Rattle.std.proofs.Common.{◌≡◌}
use Rattle.std.specs.Prelude.{true}
use Rattle.crash_model.specs.Disk.{byte}
use Rattle.known_bytes.specs.Family.{InEach, is_one_of}
use Rattle.known_bytes.proofs.AtHomes.{AreSeen}
use Rattle.known_bytes.proofs.disk.KnownDisk.only.Given as goal

abbrev pub invariant-loop-other : goal.invariant-loop-other
invariant-loop-other g l = record {
  first : InEach l.self.family (λ d. is_one_of 0 l.value (byte d l.home l.offset) ≡ true);
  seen : AreSeen (λ home. InEach l.self.family (λ d. is_one_of 0 l.value (byte d home l.offset) ≡ true)) l.others
      l.left;
}

abbrev pub decreases-loop-other : goal.decreases-loop-other
decreases-loop-other g l = l.left
