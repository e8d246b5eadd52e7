use Rattle.std.proofs.Common.{◌+◌, ◌-◌}
use Rattle.known_bytes.proofs.Walked.{IsWalking}
use Rattle.known_bytes.proofs.bytes.KnownBytes.homes.Given as goal

abbrev pub invariant-loop-at : goal.invariant-loop-at
invariant-loop-at g l = IsWalking l.self l.homes.blocks l.homes.others l.homes.asks l.at l.transaction l.comes

abbrev pub decreases-loop-at : goal.decreases-loop-at
decreases-loop-at g l = 4 + l.self.base.journal - l.at
