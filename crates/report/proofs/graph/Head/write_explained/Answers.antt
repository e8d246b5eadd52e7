use Rattle.traced_patches.specs.Labels.{wait_by}
use Rattle.report.specs.Explained.{wait_text}
use Rattle.report.proofs.Adding.{ends, mapped_texts, then}
use Rattle.report.specs.Reports.{explained_text}
use Rattle.report.proofs.graph.Head.write_explained.Goals as goal

pub returns : goal.returns
unfolding explained_text
returns g c = ends c.write_all-3.result c.write_all-3.ensures (λ last.
    then (then c.in_ok-write_all.ensures (rw (mapped_texts wait_text wait_by c.args.self.now.waits.now) at
    c.in_ok-write_all-2.ensures)) last)
