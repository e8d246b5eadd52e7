use Rattle.std.proofs.Common.{below_more}
use Rattle.fs_check.proofs.counted.are_entries_live.Goals as goal

pub loop-dir-preserved : goal.loop-dir-preserved
loop-dir-preserved g c = below_more _ _ c.loop-dir.invariant
    (c.are_entries_live_in.ensures.0 c.if-not-are_entries_live_in.false)
