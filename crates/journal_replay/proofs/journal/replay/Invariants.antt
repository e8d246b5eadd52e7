use Rattle.std.proofs.Common.{◌+◌, ◌-◌}
use Rattle.journal_replay.specs.Changed.{DifferAtMost}
use Rattle.journal_replay.proofs.Walk.{IsWalking}
use Rattle.journal_replay.proofs.journal.replay.Given as goal

abbrev pub invariant-loop-header : goal.invariant-loop-header
invariant-loop-header g l = record {
  walk : IsWalking l.initial.image l.image l.at l.transaction;
  changed : DifferAtMost l.written l.initial.image l.image;
}

abbrev pub decreases-loop-header : goal.decreases-loop-header
decreases-loop-header g l = 4 + l.initial.image.journal - l.at
