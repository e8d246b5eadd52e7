use Rattle.report.proofs.Adding.{ends, nothing, then}
use Rattle.report.proofs.choices.EnoughPart.write.Goals as goal

pub returns-in-Some : goal.returns-in-Some
returns-in-Some g c = ends c.write-in-Some.result c.write-in-Some.ensures (λ last. rw c.in-Some.is (
    then (then (then (then (then c.in_ok-write.ensures c.in_ok-write_explained.ensures) c.in_ok-write_count.ensures)
    c.in_ok-write_all.ensures) c.in_ok-write_all-2.ensures) (then last nothing)))

pub returns-in-None : goal.returns-in-None
returns-in-None g c = rw c.in-None.is (
    then (then (then (then (then c.in_ok-write.ensures c.in_ok-write_explained.ensures) c.in_ok-write_count.ensures)
    c.in_ok-write_all.ensures) c.in_ok-write_all-2.ensures) nothing)
