use Rattle.std.proofs.Common.{append_assoc}
use Rattle.report.proofs.Adding.{added, ends, pushed}
use Rattle.report.specs.Choices.{need_line}
use Rattle.report.proofs.need.Need.write_choices.Goals as goal

pub returns : goal.returns
unfolding need_line
returns c = ends c.push_str-2.result (pushed c.push_str-2.result _ _ c.push_str-2.ensures.bytes) (λ last.
    rw (← c.self.view_is) (added (rw (
      last,
      c.in_ok-write_words.ensures.whole,
      c.in_ok-push_str.ensures.bytes,
    ) (simp append_assoc))))
