use Rattle.std.proofs.Common.{length}
use Rattle.crash_model.specs.Faults.{namers}
use Rattle.known_bytes.proofs.disk.KnownDisk.is_twice.Goals as goal

pub returns : goal.returns
returns g c = c.reach.ensures c.args.self.now (λ d. length (namers d c.args.block)) c.namers.ensures
