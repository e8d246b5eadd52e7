use Rattle.report.proofs.Adding.{ends, then}
use Rattle.report.specs.Searches.{search_text}
use Rattle.report.proofs.search.SearchHead.write.Goals as goal

pub returns : goal.returns
unfolding search_text
returns c = ends c.write_all.result c.write_all.ensures (λ last.
    then (then (then (then (then c.in_ok-write_settings.ensures c.in_ok-write_count.ensures)
    c.in_ok-write_count-2.ensures) c.in_ok-write_count-3.ensures) c.in_ok-write_count-4.ensures) (rw
    c.as_slice.ensures.value at last))
