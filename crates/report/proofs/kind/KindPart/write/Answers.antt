use Rattle.report.specs.Searches.{kind_text}
use Rattle.report.proofs.Adding.{ends, then}
use Rattle.report.proofs.Viewed.{text_viewed}
use Rattle.report.proofs.kind.KindPart.write.Goals as goal

pub returns : goal.returns
returns c = ends c.write.result c.write.ensures (λ last. text_viewed kind_text c.self.view_is (
    then (then (then (rw (← c.self.view_is) at c.in_ok-write_kind.ensures) c.in_ok-write_count.ensures) (rw
    c.as_slice.ensures.value at c.in_ok-write_lines.ensures)) last))
