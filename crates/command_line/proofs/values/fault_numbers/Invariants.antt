use Rattle.std.proofs.Common.{◌≡◌, map}
use Rattle.command_line.specs.Said.{set_of}
use Rattle.command_line.proofs.values.fault_numbers.Given as goal

abbrev pub invariant-loop-piece : goal.invariant-loop-piece
invariant-loop-piece l = l.counted ≡ set_of (map (λ piece. piece.now) l.yielded)
