use Rattle.std.proofs.Common.{length}
use Rattle.crash_model.specs.Faults.{entries_to}
use Rattle.known_bytes.proofs.disk.KnownDisk.entries_are.Goals as goal

pub returns : goal.returns
returns g c = c.are.ensures c.args.self.now (λ d. length (entries_to d c.args.inode)) c.in_ok-count.ensures.ok
