use Rattle.report.proofs.Adding.{ends, then}
use Rattle.report.specs.Reports.{head_text}
use Rattle.report.proofs.graph.Head.write.Goals as goal

pub returns : goal.returns
unfolding head_text
returns g c = ends c.write_count-2.result c.write_count-2.ensures (λ last.
    then (then c.in_ok-write_settings.ensures c.in_ok-write_count.ensures) last)
