use Rattle.std.proofs.Common.{◌≤◌, ◌*◌, length}
use Rattle.crash_model.specs.Lists.{each_below, some_below}
use Rattle.known_bytes.specs.Counts.{AreBounds, entry_at}
use Rattle.known_bytes.proofs.disk.KnownDisk.entries_to.Given as goal

abbrev pub invariant-loop-dir : goal.invariant-loop-dir
invariant-loop-dir g l = record {
  right : l.count.least ≤ l.count.most;
  few : l.count.most ≤ 10 * l.dir;
  bounds : AreBounds l.self (λ d. length (each_below l.dir (λ dir. some_below 10 (entry_at d l.inode dir))))
      l.count.least l.count.most l.count.ask;
}
