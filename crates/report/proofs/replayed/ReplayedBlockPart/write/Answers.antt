use Rattle.std.proofs.Common.{append_assoc}
use Rattle.report.proofs.Adding.{added, ends, pushed}
use Rattle.report.proofs.replayed.ReplayedBlockPart.write.Goals as goal

pub returns : goal.returns
returns c = ends c.push_str-2.result (pushed c.push_str-2.result _ _ c.push_str-2.ensures.bytes) (λ last. added (rw (
  last,
  c.in_ok-push_str.ensures.bytes,
  c.as_str.ensures.value,
  c.in_ok-bytes.ensures,
  c.as_slice.ensures,
  c.in_ok-write.ensures.bytes,
) (simp append_assoc)))
