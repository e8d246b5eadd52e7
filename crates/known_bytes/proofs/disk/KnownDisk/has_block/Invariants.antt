use Rattle.known_bytes.specs.Reading.{IsKnown}
use Rattle.known_bytes.specs.Shown.{agrees}
use Rattle.known_bytes.proofs.disk.KnownDisk.has_block.Given as goal

abbrev pub invariant-loop-offset : goal.invariant-loop-offset
invariant-loop-offset g l = IsKnown l.self (λ d. agrees l.offset l.block l.disk d) l.answer
