use Rattle.known_bytes.specs.Reading.{IsKnown}
use Rattle.known_bytes.specs.Shown.{shows_below}
use Rattle.known_bytes.proofs.disk.KnownDisk.shows.Given as goal

abbrev pub invariant-loop-block : goal.invariant-loop-block
invariant-loop-block g l = IsKnown l.self (λ d. shows_below l.block l.disk d) l.answer
