use Rattle.std.proofs.Common.{◌≡◌}
use Rattle.std.specs.Prelude.{None}
use Rattle.known_bytes.specs.NamedIn.{first_child_in}
use Rattle.known_bytes.specs.Reading.{InEachDisk}
use Rattle.known_bytes.proofs.disk.KnownDisk.first_child.Given as goal

abbrev pub invariant-loop-k : goal.invariant-loop-k
invariant-loop-k g l = InEachDisk l.self (λ d. first_child_in l.k l.block l.spelled.items d ≡ None)
