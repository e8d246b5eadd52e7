use Rattle.std.proofs.Common.{◌≤◌}
use Rattle.known_bytes.specs.Counts.{AreBounds, slots_in}
use Rattle.known_bytes.proofs.disk.KnownDisk.named_in.Given as goal

abbrev pub invariant-loop-slot : goal.invariant-loop-slot
invariant-loop-slot g l = record {
  right : l.count.least ≤ l.count.most;
  few : l.count.most ≤ l.slot;
  bounds : AreBounds l.self (λ d. slots_in l.slot d l.block l.inode) l.count.least l.count.most l.count.ask;
}
