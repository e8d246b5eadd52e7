use Rattle.std.specs.List.{Contains}
use Rattle.known_bytes.specs.Reading.{InEachDisk}
use Rattle.known_bytes.specs.Slots.{block_shown}
use Rattle.known_bytes.proofs.EachValue.{AreTaken}
use Rattle.known_bytes.proofs.disk.KnownDisk.slot_list.Given as goal

abbrev pub invariant-loop-block : goal.invariant-loop-block
invariant-loop-block g l = AreTaken l.blocks.low l.blocks.high l.block
    (λ block. InEachDisk l.self (λ d. Contains l.shows.items (block_shown d block)))
