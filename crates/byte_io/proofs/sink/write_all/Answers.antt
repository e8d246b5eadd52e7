use Rattle.std.proofs.Common.{rules}
use Rattle.byte_io.proofs.Known.{appends-both, seam-moved}
use Rattle.byte_io.proofs.sink.write_all.Goals as goal

pub loop-rest-preserved : goal.loop-rest-preserved
loop-rest-preserved g c = (
  (
    _,
    seam-moved _ _ _ c.in_ok-count.count c.loop-rest.invariant.0.1,
    appends-both _ _ _ _ _ c.loop-rest.invariant.0.2 c.in_ok-count.ensures.bytes,
  ),
  search rules,
)
