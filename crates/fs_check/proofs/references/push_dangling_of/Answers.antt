use Rattle.std.proofs.Common.{◌-◌, ◌<◌, ℕ, length, arith, refl, sym, ap, ◌∙◌}
use Rattle.std.proofs.lemmas.List.{append-nil, length-set}
use Rattle.crash_model.proofs.EachBelow.{some_below-zero}
use Rattle.crash_model.specs.declared.fault.Fault.TheVariants.{Dangling}
use Rattle.fs_check.specs.References.{dangling_at, led_at}
use Rattle.fs_check.proofs.Counting.{tally-row}
use Rattle.fs_check.proofs.Entries.{live-below}
use Rattle.fs_check.proofs.Found.{pushed, passed_over, dangling-here, dangling-entry_counts, dangling-none}
use Rattle.fs_check.proofs.Tallied.{entry_counts-none, entry_counts-dead, entry_counts-live, entry_counts-most}
use Rattle.fs_check.proofs.references.push_dangling_of.Goals as goal
use Rattle.fs_check.proofs.references.push_dangling_of.Goals.{then-entry-ne0+then-is_live}
use Rattle.fs_check.proofs.references.push_dangling_of.Goals.{then-entry-ne0+else-is_live+in_ok-push, else-entry-ne0}

pub loop-k-init : goal.loop-k-init
loop-k-init g c = record {
  found = rw (some_below-zero, append-nil) refl;
  size = c.told-entry_counts;
  entry_counts = c.requires.entry_counts;
}

pub overflow_add-entry_counts : goal.overflow_add-entry_counts
overflow_add-entry_counts g c =
    let inode : ℕ = c.entry-entry.result - 1 in
    let within : inode < length c.loop-k.entry_counts = omega (
      arith,
      live-below c.args.image.now inode (sym c.is_live.ensures ∙ c.if-is_live.true),
      c.loop-k.invariant.size,
    ) in
    omega (
      arith,
      entry_counts-most c.args.image.now c.args.dir c.loop-k.k inode c.loop-k.entry_counts within
          c.loop-k.invariant.entry_counts,
    )

pub loop-k-preserved : goal.loop-k-preserved
loop-k-preserved g c =
    let d = c.args.image.now in
    let dir = c.args.dir in
    let k = c.loop-k.k in
    let entry = c.entry-entry.result in
    let here = c.entry-entry.ensures in
    let entry_counts = c.loop-k.entry_counts in
    let old = c.args.found.now.items in
    let before = c.loop-k.found.items in
    let is = sym here in
    let leads = ap (λ (e : ℕ). e - 1) is in
    let all = c.loop-k.invariant in
    elim c.if-entry-ne0.branch [
      | then-entry-ne0+then-is_live w ↦
          let live = sym w.is_live.ensures ∙ w.if-is_live.true in
          rw (w.found-is, w.entry_counts-is) (record {
            found = passed_over (dangling_at d dir) k old before
                (dangling-entry_counts d dir k entry is live) all.found;
            size = length-set entry_counts (entry - 1) _ ∙ all.size;
            entry_counts = entry_counts-live d dir entry_counts k (entry - 1) _ c.requires.counts
                (λ e. w.if-entry-ne0.true (here ∙ e)) leads live
                (omega (arith, live-below d (entry - 1) live, all.size)) refl all.entry_counts;
          })
      | then-entry-ne0+else-is_live+in_ok-push w ↦
          let dead = sym w.is_live.ensures ∙ w.if-is_live.false in
          rw (w.found-is, w.entry_counts-is) (record {
            found = pushed (dangling_at d dir) k (Dangling dir k (entry - 1)) old before _
                (dangling-here d dir k entry c.requires.counts is w.if-entry-ne0.true dead) w.in_ok-push.ensures.items
                all.found;
            size = all.size;
            entry_counts = entry_counts-dead d dir entry_counts k (entry - 1) leads dead all.entry_counts;
          })
      | else-entry-ne0 w ↦ rw (w.found-is, w.entry_counts-is) (record {
        found = passed_over (dangling_at d dir) k old before (dangling-none d dir k (is ∙ w.if-entry-ne0.false))
            all.found;
        size = all.size;
        entry_counts = entry_counts-none d dir entry_counts k (is ∙ w.if-entry-ne0.false) all.entry_counts;
      })
    ]

pub returns-clause-entry_counts : goal.returns-clause-entry_counts
returns-clause-entry_counts g c =
    tally-row 10 (led_at c.args.image.now) c.args.dir c.loop-k.k c.loop-k.entry_counts (omega arith)
    c.loop-k.invariant.entry_counts
