use Rattle.std.proofs.Common.{◌≤◌, ◌*◌, length}
use Rattle.crash_model.specs.Lists.{each_below, some_below}
use Rattle.known_bytes.specs.Counts.{AreBounds, slot_at}
use Rattle.known_bytes.proofs.disk.KnownDisk.namers.Given as goal

abbrev pub invariant-loop-inode : goal.invariant-loop-inode
invariant-loop-inode g l = record {
  right : l.count.least ≤ l.count.most;
  few : l.count.most ≤ 4 * l.inode;
  bounds : AreBounds l.self (λ d. length (each_below l.inode (λ inode. some_below 4 (slot_at d l.block inode))))
      l.count.least l.count.most l.count.ask;
}
