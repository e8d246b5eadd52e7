use Rattle.std.specs.Prelude.{◌==◌}
use Rattle.crash_model.specs.Disk.{byte}
use Rattle.known_bytes.specs.Reading.{IsKnown, left}
use Rattle.known_bytes.proofs.AtHomes.{AreSeen}
use Rattle.known_bytes.proofs.disk.KnownDisk.byte_is.Given as goal

abbrev pub invariant-loop-other : goal.invariant-loop-other
invariant-loop-other g l = AreSeen
    (λ home. IsKnown (left l.self.family) (λ d. byte d home l.offset == l.value) l.answer) l.others l.left

abbrev pub decreases-loop-other : goal.decreases-loop-other
decreases-loop-other g l = l.left
