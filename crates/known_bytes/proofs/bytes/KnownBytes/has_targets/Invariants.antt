use Rattle.known_bytes.specs.Reading.{IsKnown, left}
use Rattle.known_bytes.specs.Headers.{has_first}
use Rattle.known_bytes.proofs.bytes.KnownBytes.has_targets.Given as goal

abbrev pub invariant-loop-k : goal.invariant-loop-k
invariant-loop-k g l = IsKnown (left l.self) (λ d. has_first l.k d l.at l.targets) l.all
