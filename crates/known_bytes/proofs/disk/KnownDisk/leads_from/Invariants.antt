use Rattle.std.proofs.Common.{◌≤◌}
use Rattle.known_bytes.specs.Counts.{AreBounds, entries_in}
use Rattle.known_bytes.proofs.disk.KnownDisk.leads_from.Given as goal

abbrev pub invariant-loop-k : goal.invariant-loop-k
invariant-loop-k g l = record {
  right : l.count.least ≤ l.count.most;
  few : l.count.most ≤ l.k;
  bounds : AreBounds l.self (λ d. entries_in l.k d l.inode l.dir) l.count.least l.count.most l.count.ask;
}
