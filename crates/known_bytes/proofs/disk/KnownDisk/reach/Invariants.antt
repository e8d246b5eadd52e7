use Rattle.known_bytes.specs.Reached.{IsReach}
use Rattle.known_bytes.proofs.Named.{HasRead}
use Rattle.known_bytes.proofs.disk.KnownDisk.reach.Given as goal

abbrev pub invariant-loop-dir : goal.invariant-loop-dir
invariant-loop-dir g l = record {
  reach : IsReach l.self l.reach.sure l.reach.may l.reach.asks;
  read : HasRead l.self l.reach.may l.unread;
}

abbrev pub decreases-loop-dir : goal.decreases-loop-dir
decreases-loop-dir g l = l.unread
