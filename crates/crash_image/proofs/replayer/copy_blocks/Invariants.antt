use Rattle.crash_image.proofs.Differ.{IsCopying}
use Rattle.crash_image.proofs.replayer.copy_blocks.Given as goal

abbrev pub invariant-loop-block : goal.invariant-loop-block
invariant-loop-block g l = IsCopying l.from l.into l.left

abbrev pub decreases-loop-block : goal.decreases-loop-block
decreases-loop-block g l = l.left
