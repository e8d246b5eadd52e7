use Rattle.std.proofs.Common.{◌≡◌, ◌-◌, length}
use Rattle.std.specs.Io.KnownBytes.{Consumes}
use Rattle.byte_io.proofs.source.read_to_end.Given as goal

-- the bytes are those that the source has given, and no read has failed
abbrev pub invariant-loop-chunk : goal.invariant-loop-chunk
invariant-loop-chunk g l =
    Consumes (g.S.Source.coming l.fn.source) (g.S.Source.coming l.source) l.bytes.items
    × (g.S.Source.failures l.source ≡ g.S.Source.failures l.fn.source)
    × (length l.chunk ≡ 4096)

abbrev pub decreases-loop-chunk : goal.decreases-loop-chunk
decreases-loop-chunk g l = 1048577 - length l.bytes.items
