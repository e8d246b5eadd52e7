use Rattle.report.proofs.Adding.{ends, then}
use Rattle.report.proofs.explained.PromisePart.write.Goals as goal

pub returns : goal.returns
returns g c = ends c.write_lines-2.result c.write_lines-2.ensures (λ last. rw (← c.self.view_is) (
    then (then (then (rw (← c.self.view_is) at c.in_ok-write_promise_line.ensures) c.in_ok-write_after.ensures)
    (rw c.as_slice.ensures.value at c.in_ok-write_lines.ensures)) (rw c.as_slice-2.ensures.value at
    last)))
