use Rattle.std.proofs.Common.{append_assoc}
use Rattle.report.proofs.Adding.{added, ends, pushed}
use Rattle.report.proofs.choices.ChoicesPart.write.Goals as goal

pub returns : goal.returns
returns c = ends c.push_str-2.result (pushed c.push_str-2.result _ _ c.push_str-2.ensures.bytes) (λ last. added (rw (
  last,
  c.in_ok-write_words.ensures.whole,
  c.in_ok-push_str.ensures.bytes,
  c.name.ensures,
) (simp append_assoc)))
