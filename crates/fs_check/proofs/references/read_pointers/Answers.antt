use Rattle.std.proofs.Common.{[], ℕ, length, arith, sym, ap, ◌∙◌}
use Rattle.crash_model.specs.Lists.{some_below}
use Rattle.crash_model.proofs.EachBelow.{each_below-zero}
use Rattle.fs_check.specs.References.{wrong_at, named_at}
use Rattle.fs_check.proofs.Counting.{tally-start}
use Rattle.fs_check.proofs.Found.{row_pushed, row_passed, wrong-dead}
use Rattle.fs_check.proofs.Tallied.{pointer_counts-dead}
use Rattle.fs_check.proofs.references.read_pointers.Goals as goal
use Rattle.fs_check.proofs.references.read_pointers.Goals.{then-is_live, else-is_live}

pub loop-inode-init : goal.loop-inode-init
loop-inode-init g c = record {
  wrong = c.requires.none ∙ sym (each_below-zero _);
  room = omega (arith, ap length c.requires.none);
  pointer_counts = rw c.requires.zero (tally-start 4 (named_at c.args.image.now) 128);
}

pub loop-inode-preserved : goal.loop-inode-preserved
loop-inode-preserved g c =
    let d = c.args.image.now in
    let inode = c.loop-inode.inode in
    let all = c.loop-inode.invariant in
    let rows = λ (inode : ℕ). some_below 4 (wrong_at d inode) in
    elim c.if-is_live.branch [
      | then-is_live w ↦ rw (w.wrong-is, w.pointer_counts-is) (record {
        wrong = row_pushed rows inode [] c.loop-inode.wrong.items _ w.read_slots.ensures.wrong all.wrong;
        room = w.read_slots.ensures.room;
        pointer_counts = w.read_slots.ensures.pointer_counts;
      })
      | else-is_live w ↦ rw (w.wrong-is, w.pointer_counts-is) (record {
        wrong = row_passed rows inode [] c.loop-inode.wrong.items
            (wrong-dead d inode (sym c.is_live.ensures ∙ w.if-is_live.false)) all.wrong;
        room = omega (arith, all.room);
        pointer_counts = pointer_counts-dead d inode c.loop-inode.pointer_counts
            (sym c.is_live.ensures ∙ w.if-is_live.false) all.pointer_counts;
      })
    ]
