use Rattle.known_bytes.specs.NamedIn.{has_bytes}
use Rattle.known_bytes.specs.Reading.{IsKnown}
use Rattle.known_bytes.proofs.disk.KnownDisk.is_spelled.Given as goal

abbrev pub invariant-loop-at : goal.invariant-loop-at
invariant-loop-at g l = IsKnown l.self (has_bytes l.at l.block l.from l.spelled) l.answer
