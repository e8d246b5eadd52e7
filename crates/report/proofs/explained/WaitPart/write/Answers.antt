use Rattle.std.proofs.Common.{append_assoc}
use Rattle.report.proofs.Adding.{added, ends, pushed}
use Rattle.report.proofs.explained.WaitPart.write.Goals as goal

pub returns : goal.returns
returns c = ends c.push_str.result (pushed c.push_str.result _ _ c.push_str.ensures.bytes) (λ last. added (rw (
  last,
  c.in_ok-write_ids.ensures.whole,
  c.in_ok-write.ensures.bytes,
) (simp append_assoc)))
