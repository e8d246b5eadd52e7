use Rattle.std.proofs.Common.{List, ℕ, length, ap, sym, ◌∙◌}
use Rattle.journal_replay.proofs.Changed.{all_few, unchanged, header_changes}
use Rattle.journal_replay.proofs.Walk.{walking-start, header_known, header_copied, header_left, header_step}
use Rattle.journal_replay.proofs.Walk.{replay_ends, replay_keeps_journal}
use Rattle.journal_replay.proofs.journal.replay.Goals as goal
use Rattle.journal_replay.proofs.journal.replay.Goals.{then-is_committed, else-is_committed}

pub loop-header-init : goal.loop-header-init
loop-header-init g c = record {
  walk = walking-start c.args.image.now c.journal-journal.ensures.disk;
  changed = unchanged c.args.image.now;
}

pub copy_blocks-requires-clause-to : goal.copy_blocks-requires-clause-to
copy_blocks-requires-clause-to g c = header_known c.loop-header.image c.loop-header.at c.loop-header.transaction
    c.in-Some.header c.targets-targets.result.now c.loop-header.invariant.walk.disk c.in-Some.ensures
    c.targets-targets.ensures

pub with_all-written-requires : goal.with_all-written-requires
with_all-written-requires g c = all_few c.loop-header.image c.targets-targets.result.now
    c.loop-header.invariant.walk.disk
    (header_known c.loop-header.image c.loop-header.at c.loop-header.transaction c.in-Some.header
    c.targets-targets.result.now
    c.loop-header.invariant.walk.disk c.in-Some.ensures c.targets-targets.ensures)

pub loop-header-preserved : goal.loop-header-preserved
loop-header-preserved g c =
    let d = c.loop-header.image in let at = c.loop-header.at in let transaction = c.loop-header.transaction in
    let h = c.in-Some.header in
    let targets = c.targets-targets.result.now in let same = c.targets-targets.ensures in
    record {
      walk = header_step c.args.image.now d c.if-is_committed.image at transaction (length targets) h
          c.loop-header.invariant.walk c.in-Some.ensures (ap (λ (xs : List ℕ). length xs) same)
          (elim c.if-is_committed.branch [
            | then-is_committed w ↦ w.image-is ∙ w.copy_blocks.ensures
                ∙ header_copied d at transaction h targets c.in-Some.ensures same
                (sym c.is_committed.ensures ∙ w.if-is_committed.true)
            | else-is_committed w ↦ w.image-is ∙ header_left d at transaction h c.in-Some.ensures
                (sym c.is_committed.ensures ∙ w.if-is_committed.false)
          ]);
      changed = elim c.if-is_committed.branch [
        | then-is_committed w ↦ rw (w.image-is, w.written-is)
            (header_changes c.args.image.now d w.copy_blocks.new.image at transaction h targets
            c.loop-header.written w.with_all-written.result c.loop-header.invariant.walk c.in-Some.ensures same
            w.copy_blocks.ensures
            w.with_all-written.ensures.old record { each = w.with_all-written.ensures.more }
            c.loop-header.invariant.changed)
        | else-is_committed w ↦ rw (w.image-is, w.written-is) c.loop-header.invariant.changed
      ];
    }

pub returns-clause-replayed : goal.returns-clause-replayed
returns-clause-replayed g c =
    replay_ends c.args.image.now c.loop-header.image c.loop-header.at c.loop-header.transaction
    c.journal-journal.ensures.disk c.loop-header.invariant.walk c.in_default.ensures

pub returns-clause-journal : goal.returns-clause-journal
returns-clause-journal g c = λ block from to. replay_keeps_journal c.args.image.now c.loop-header.image c.loop-header.at
    c.loop-header.transaction block c.journal-journal.ensures.disk c.loop-header.invariant.walk
    c.in_default.ensures from to
