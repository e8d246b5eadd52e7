use Rattle.std.proofs.Common.{◌≡◌, ℕ, arith, sym, subst, ◌∙◌}
use Rattle.fs_check.specs.References.{led_at}
use Rattle.fs_check.specs.TableCounts.{IsTally}
use Rattle.fs_check.proofs.Counting.{tally-start}
use Rattle.fs_check.proofs.Tallied.{entry_counts-uncounted}
use Rattle.fs_check.proofs.counted.count_entries.Goals as goal
use Rattle.fs_check.proofs.counted.count_entries.Goals.{then-counts, else-counts}

pub loop-dir-init : goal.loop-dir-init
loop-dir-init g c = tally-start 10 (led_at c.args.image.now) 16

pub loop-dir-preserved : goal.loop-dir-preserved
loop-dir-preserved g c = elim c.if-counts.branch [
  | then-counts w ↦ rw w.entry_counts-is w.count_entries_of.ensures
  | else-counts w ↦ rw w.entry_counts-is (entry_counts-uncounted c.args.image.now c.loop-dir.dir c.loop-dir.entry_counts
      (sym c.counts.ensures ∙ w.if-counts.false) c.loop-dir.invariant)
]

pub returns : goal.returns
returns g c =
    let end : c.loop-dir.dir ≡ 16 = omega arith in
    subst (λ (n : ℕ). IsTally 10 (led_at c.args.image.now) n 0 c.loop-dir.entry_counts) end c.loop-dir.invariant
