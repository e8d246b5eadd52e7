use Rattle.std.proofs.Common.{◌≡◌}
use Rattle.known_bytes.proofs.Undecided.{IsPassing}
use Rattle.known_bytes.proofs.bytes.KnownBytes.later.Given as goal

abbrev pub invariant-loop-id : goal.invariant-loop-id
invariant-loop-id g l = IsPassing l.self l.block l.offset (λ x. x ≡ x) l.left

abbrev pub decreases-loop-id : goal.decreases-loop-id
decreases-loop-id g l = l.left
