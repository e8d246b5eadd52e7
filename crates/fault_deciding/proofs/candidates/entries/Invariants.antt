use Rattle.std.proofs.Common.{◌+◌, ◌*◌}
use Rattle.fault_deciding.proofs.Found.{AreGathered}
use Rattle.fault_deciding.proofs.candidates.entries.Given as goal

abbrev pub invariant-loop-block : goal.invariant-loop-block
invariant-loop-block g l = AreGathered l.bytes l.blocks.low l.blocks.high l.block (8 + 12 * l.k) l.values.low
    l.values.high
