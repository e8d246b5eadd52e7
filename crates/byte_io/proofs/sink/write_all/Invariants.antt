use Rattle.std.proofs.Common.{◌≡◌, ℕ, ◌++◌, List, length}
use Rattle.std.specs.Io.KnownBytes.{Appends}
use Rattle.byte_io.proofs.sink.write_all.Given as goal

-- a front of the text has been taken, and no call has failed
abbrev pub invariant-loop-rest : goal.invariant-loop-rest
invariant-loop-rest g l =
    ((front : List ℕ) × (l.fn.text ≡ front ++ l.rest) × Appends (g.S.Sink.taken l.fn.sink) (g.S.Sink.taken l.sink)
    front)
    × (g.S.Sink.failures l.sink ≡ g.S.Sink.failures l.fn.sink)

abbrev pub decreases-loop-rest : goal.decreases-loop-rest
decreases-loop-rest g l = length l.rest
