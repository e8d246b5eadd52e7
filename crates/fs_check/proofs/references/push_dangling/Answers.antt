use Rattle.std.proofs.Common.{ℕ, sym, ◌∙◌, refl}
use Rattle.std.proofs.lemmas.List.{append-nil}
use Rattle.crash_model.specs.Lists.{some_below}
use Rattle.crash_model.proofs.EachBelow.{each_below-zero}
use Rattle.fs_check.specs.References.{dangling_at, led_at}
use Rattle.fs_check.proofs.Counting.{tally-start}
use Rattle.fs_check.proofs.Found.{row_pushed, row_passed, dangling-uncounted}
use Rattle.fs_check.proofs.Tallied.{entry_counts-uncounted}
use Rattle.fs_check.proofs.references.push_dangling.Goals as goal
use Rattle.fs_check.proofs.references.push_dangling.Goals.{then-counts+in_ok-push_dangling_of, else-counts}

pub loop-dir-init : goal.loop-dir-init
loop-dir-init g c = record {
  found = rw (each_below-zero, append-nil) refl;
  entry_counts = tally-start 10 (led_at c.args.image.now) 16;
}

pub loop-dir-preserved : goal.loop-dir-preserved
loop-dir-preserved g c =
    let d = c.args.image.now in
    let dir = c.loop-dir.dir in
    let old = c.args.found.now.items in
    let before = c.loop-dir.found.items in
    let all = c.loop-dir.invariant in
    let rows = λ (dir : ℕ). some_below 10 (dangling_at d dir) in
    elim c.if-counts.branch [
      | then-counts+in_ok-push_dangling_of w ↦ rw (w.found-is, w.entry_counts-is) (record {
        found = row_pushed rows dir old before _ w.in_ok-push_dangling_of.ensures.found all.found;
        entry_counts = w.in_ok-push_dangling_of.ensures.entry_counts;
      })
      | else-counts w ↦ rw (w.found-is, w.entry_counts-is) (record {
        found = row_passed rows dir old before (dangling-uncounted d dir (sym c.counts.ensures ∙ w.if-counts.false))
            all.found;
        entry_counts = entry_counts-uncounted d dir c.loop-dir.entry_counts
            (sym c.counts.ensures ∙ w.if-counts.false) all.entry_counts;
      })
    ]
