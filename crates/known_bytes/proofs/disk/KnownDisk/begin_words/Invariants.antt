use Rattle.std.specs.List.{Contains}
use Rattle.known_bytes.specs.Reading.{InEachDisk}
use Rattle.known_bytes.proofs.ListedSlots.{first_bytes}
use Rattle.known_bytes.proofs.disk.KnownDisk.begin_words.Given as goal

abbrev pub invariant-loop-at : goal.invariant-loop-at
invariant-loop-at g l = InEachDisk l.self (λ d. Contains l.words.items (first_bytes l.at l.block d))
