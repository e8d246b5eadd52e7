use Rattle.std.proofs.Common.{◌≡◌, not}
use Rattle.std.specs.Prelude.{bytes_eq}
use Rattle.crash_model.specs.Disk.{block_of}
use Rattle.crash_model.specs.Lists.{some_below, when}
use Rattle.report.proofs.making.detail.changed_blocks.Given as goal

abbrev pub invariant-loop-block : goal.invariant-loop-block
invariant-loop-block g l =
    l.changed.items
    ≡ some_below l.block (λ b. when (not (bytes_eq (block_of l.before b) (block_of l.after b)))
    (record { block = b; bytes = block_of l.after b }))
