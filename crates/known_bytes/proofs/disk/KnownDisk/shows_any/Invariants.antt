use Rattle.std.proofs.Common.{take}
use Rattle.std.specs.List.{list_any}
use Rattle.crash_model.specs.Atomic.{shows}
use Rattle.known_bytes.specs.Reading.{IsKnown}
use Rattle.known_bytes.proofs.disk.KnownDisk.shows_any.Given as goal

abbrev pub invariant-loop-disk : goal.invariant-loop-disk
invariant-loop-disk g l = IsKnown l.self (λ d. list_any (shows d) (take l.disk-index l.disks)) l.answer
