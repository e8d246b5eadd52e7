use Rattle.report.proofs.Adding.{added, ends, pushed, then}
use Rattle.report.proofs.explained.DependencyPart.write.Goals as goal

pub returns : goal.returns
returns c = ends c.push_str.result (pushed c.push_str.result _ _ c.push_str.ensures.bytes) (λ last.
    rw (← c.self.view_is) (then
    (then (added c.in_ok-write.ensures.bytes) (rw c.as_slice.ensures.value at c.in_ok-write_joined.ensures))
    (added last)))
