use Rattle.std.proofs.Common.{◌≡◌}
use Rattle.std.specs.Prelude.{slice_index}
use Rattle.known_bytes.specs.Family.{is_one_of}
use Rattle.known_bytes.proofs.Undecided.{IsPassing}
use Rattle.known_bytes.proofs.bytes.KnownBytes.other.Given as goal

abbrev pub invariant-loop-id : goal.invariant-loop-id
invariant-loop-id g l = IsPassing l.self l.block l.offset
    (λ x. is_one_of (slice_index l.values 0) (slice_index l.values 1) x ≡ l.alike) l.left

abbrev pub decreases-loop-id : goal.decreases-loop-id
decreases-loop-id g l = l.left
