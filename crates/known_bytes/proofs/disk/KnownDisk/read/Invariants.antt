use Rattle.known_bytes.proofs.Named.{IsReading}
use Rattle.known_bytes.proofs.disk.KnownDisk.read.Given as goal

abbrev pub invariant-loop-inode : goal.invariant-loop-inode
invariant-loop-inode g l = IsReading l.self l.dir l.inode l.fn.reach.may l.reach.sure l.reach.may l.reach.asks
