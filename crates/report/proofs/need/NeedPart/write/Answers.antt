use Rattle.report.specs.Choices.{need_text}
use Rattle.report.proofs.Adding.{ends, then}
use Rattle.report.proofs.Viewed.{text_viewed}
use Rattle.report.proofs.need.NeedPart.write.Goals as goal

pub returns : goal.returns
returns c = ends c.write.result c.write.ensures (λ last. text_viewed need_text c.self.view_is (
    then (then (rw (← c.self.view_is) at c.in_ok-write_choices.ensures) (rw c.as_slice.ensures.value at
    c.in_ok-write_lines.ensures)) last))
