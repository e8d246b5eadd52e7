use Rattle.crash_model.specs.Disk.{byte}
use Rattle.known_bytes.specs.Family.{InEach, HasValue}
use Rattle.known_bytes.proofs.AtHomes.{AreSeen}
use Rattle.known_bytes.proofs.disk.KnownDisk.values.Given as goal

abbrev pub invariant-loop-other : goal.invariant-loop-other
invariant-loop-other g l = record {
  first : InEach l.self.family (λ d. HasValue l.values.low l.values.high (byte d l.home l.offset));
  seen : AreSeen (λ home. InEach l.self.family (λ d. HasValue l.values.low l.values.high (byte d home l.offset)))
      l.others l.left;
}

abbrev pub decreases-loop-other : goal.decreases-loop-other
decreases-loop-other g l = l.left
