use Rattle.std.proofs.Common.{◌-◌, ◌<◌, ℕ, length, arith, refl, sym, ap, ◌∙◌}
use Rattle.std.proofs.lemmas.List.{length-set}
use Rattle.fs_check.specs.References.{led_at}
use Rattle.fs_check.proofs.Counting.{tally-row}
use Rattle.fs_check.proofs.Entries.{live-below}
use Rattle.fs_check.proofs.Tallied.{entry_counts-none, entry_counts-dead, entry_counts-live, entry_counts-most}
use Rattle.fs_check.proofs.counted.count_entries_of.Goals as goal
use Rattle.fs_check.proofs.counted.count_entries_of.Goals.{then-entry-ne0+then-is_live, else-entry-ne0}
use Rattle.fs_check.proofs.counted.count_entries_of.Goals.{else-entry-ne0-via-then-entry-ne0+else-is_live}
use Rattle.fs_check.proofs.counted.count_entries_of.Goals.{else-entry-ne0-via-else-entry-ne0}

pub loop-k-init : goal.loop-k-init
loop-k-init g c = record { size = c.told-entry_counts; entry_counts = c.requires.entry_counts }

pub overflow_add-entry_counts : goal.overflow_add-entry_counts
overflow_add-entry_counts g c =
    let inode : ℕ = c.entry-entry.result - 1 in
    let within : inode < length c.loop-k.entry_counts = omega (
      arith,
      live-below c.args.image.now inode (sym c.is_live.ensures ∙ c.if-is_live.true),
      c.loop-k.invariant.size,
    ) in
    omega (
      arith,
      entry_counts-most c.args.image.now c.args.dir c.loop-k.k inode c.loop-k.entry_counts within
          c.loop-k.invariant.entry_counts,
    )

pub loop-k-preserved : goal.loop-k-preserved
loop-k-preserved g c =
    let d = c.args.image.now in
    let dir = c.args.dir in
    let k = c.loop-k.k in
    let entry = c.entry-entry.result in
    let entry_counts = c.loop-k.entry_counts in
    let is = sym c.entry-entry.ensures in
    let leads = ap (λ (e : ℕ). e - 1) is in
    let all = c.loop-k.invariant in
    elim c.if-entry-ne0.branch [
      | then-entry-ne0+then-is_live w ↦
          let live = sym w.is_live.ensures ∙ w.if-is_live.true in
          rw w.entry_counts-is (record {
            size = length-set entry_counts (entry - 1) _ ∙ all.size;
            entry_counts = entry_counts-live d dir entry_counts k (entry - 1) _ c.requires.counts
                (λ e. w.if-entry-ne0.true (c.entry-entry.ensures ∙ e)) leads live
                (omega (arith, live-below d (entry - 1) live, all.size)) refl all.entry_counts;
          })
      | else-entry-ne0 w ↦ rw w.entry_counts-is (record {
        size = all.size;
        entry_counts = elim w.else-entry-ne0.branch [
          | else-entry-ne0-via-then-entry-ne0+else-is_live v ↦ entry_counts-dead d dir entry_counts k (entry - 1) leads
              (sym v.is_live.ensures ∙ v.if-is_live.false) all.entry_counts
          | else-entry-ne0-via-else-entry-ne0 v ↦ entry_counts-none d dir entry_counts k (is ∙ v.if-entry-ne0.false)
              all.entry_counts
        ];
      })
    ]

pub returns : goal.returns
returns g c = tally-row 10 (led_at c.args.image.now) c.args.dir c.loop-k.k c.loop-k.entry_counts (omega arith)
    c.loop-k.invariant.entry_counts
