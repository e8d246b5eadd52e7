use Rattle.std.proofs.Common.{rules}
use Rattle.byte_io.proofs.Known.{consumes-both}
use Rattle.byte_io.proofs.source.read_to_end.Goals as goal

pub returns-in_err-extend_from_slice-clause-gone : goal.returns-in_err-extend_from_slice-clause-gone
returns-in_err-extend_from_slice-clause-gone g c = (
  _,
  consumes-both _ _ _ _ _ c.loop-chunk.invariant.0 c.in_ok-count.ensures.bytes.0,
  search rules,
)
