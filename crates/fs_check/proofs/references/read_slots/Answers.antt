use Rattle.std.proofs.Common.{arith, refl, sym, ◌∙◌}
use Rattle.std.proofs.lemmas.List.{append-nil}
use Rattle.crash_model.proofs.EachBelow.{some_below-zero}
use Rattle.fs_check.specs.References.{pointer, wrong_at, named_at}
use Rattle.fs_check.proofs.Counting.{tally-row}
use Rattle.fs_check.proofs.Found.{pushed, passed_over, wrong-here, wrong-right, wrong-none}
use Rattle.fs_check.proofs.Tallied.{pointer_counts-none}
use Rattle.fs_check.proofs.references.read_slots.Goals as goal
use Rattle.fs_check.proofs.references.read_slots.Goals.{then-block-ne0+then-not-is_right_block}
use Rattle.fs_check.proofs.references.read_slots.Goals.{then-block-ne0+else-not-is_right_block, else-block-ne0}

pub loop-slot-init : goal.loop-slot-init
loop-slot-init g c = record {
  wrong = rw (some_below-zero, append-nil) refl;
  room = omega (arith, c.requires.room);
  pointer_counts = c.requires.pointer_counts;
}

pub loop-slot-preserved : goal.loop-slot-preserved
loop-slot-preserved g c =
    let d = c.args.image.now in
    let inode = c.args.inode in
    let slot = c.loop-slot.slot in
    let old = c.args.wrong.now.items in
    let before = c.loop-slot.wrong.items in
    let block = c.pointer-block.result in
    let points = sym c.pointer-block.ensures in
    let all = c.loop-slot.invariant in
    elim c.if-block-ne0.branch [
      | then-block-ne0+then-not-is_right_block w ↦ rw (w.wrong-is, w.pointer_counts-is) (record {
        wrong = pushed (wrong_at d inode) slot (pointer inode slot block) old before _
            (wrong-here d inode slot block c.requires.live points w.if-block-ne0.true
            (sym w.is_right_block.ensures.value ∙ w.if-not-is_right_block.true))
            w.push.ensures.items all.wrong;
        room = omega (arith, w.push.ensures.len, all.room);
        pointer_counts = w.count_pointer.ensures;
      })
      | then-block-ne0+else-not-is_right_block w ↦ rw (w.wrong-is, w.pointer_counts-is) (record {
        wrong = passed_over (wrong_at d inode) slot old before
            (wrong-right d inode slot block points (sym w.is_right_block.ensures.value ∙ w.if-not-is_right_block.false))
            all.wrong;
        room = omega (arith, all.room);
        pointer_counts = w.count_pointer.ensures;
      })
      | else-block-ne0 w ↦ rw (w.wrong-is, w.pointer_counts-is) (record {
        wrong = passed_over (wrong_at d inode) slot old before (wrong-none d inode slot (points ∙ w.if-block-ne0.false))
            all.wrong;
        room = omega (arith, all.room);
        pointer_counts = pointer_counts-none d inode c.loop-slot.pointer_counts slot
            (points ∙ w.if-block-ne0.false) all.pointer_counts;
      })
    ]

pub returns-clause-pointer_counts : goal.returns-clause-pointer_counts
returns-clause-pointer_counts g c =
    tally-row 4 (named_at c.args.image.now) c.args.inode c.loop-slot.slot c.loop-slot.pointer_counts
    (omega arith) c.loop-slot.invariant.pointer_counts
