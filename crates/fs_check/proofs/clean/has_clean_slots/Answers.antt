use Rattle.std.proofs.Common.{arith, sym, ◌∙◌}
use Rattle.fs_check.specs.Passed.{slots_of}
use Rattle.fs_check.proofs.Passed.{passed-row}
use Rattle.fs_check.proofs.Slots.{slots-empty, slots-named, faulty-wrong, faulty-twice}
use Rattle.fs_check.proofs.clean.has_clean_slots.Goals as goal
use Rattle.fs_check.proofs.clean.has_clean_slots.Goals.{then-not-is_right_block-via-then-not-is_right_block}
use Rattle.fs_check.proofs.clean.has_clean_slots.Goals.{then-not-is_right_block-via-else-not-is_right_block+then-named-block-ne0}
use Rattle.fs_check.proofs.clean.has_clean_slots.Goals.{then-block-ne0+else-not-is_right_block+else-named-block-ne0}
use Rattle.fs_check.proofs.clean.has_clean_slots.Goals.{else-block-ne0}

pub returns-then-not-is_right_block : goal.returns-then-not-is_right_block
returns-then-not-is_right_block g c =
    let points = sym c.pointer-block.ensures in
    elim c.then-not-is_right_block.branch [
      | then-not-is_right_block-via-then-not-is_right_block w ↦
          faulty-wrong c.args.image.now c.args.inode c.loop-slot.slot c.pointer-block.result c.requires.inode
          c.loop-slot-test.true c.requires.live points c.if-block-ne0.true
          (sym c.is_right_block.ensures.value ∙ w.if-not-is_right_block.true)
      | then-not-is_right_block-via-else-not-is_right_block+then-named-block-ne0 w ↦
          faulty-twice c.args.image.now c.args.inode c.loop-slot.slot c.pointer-block.result c.loop-slot.named
          c.requires.inode c.loop-slot-test.true c.requires.live points c.if-block-ne0.true
          (sym c.is_right_block.ensures.value ∙ w.if-not-is_right_block.false)
          (c.is_right_block.ensures.within w.if-not-is_right_block.false) w.if-named-block-ne0.true
          c.loop-slot.invariant
    ]

pub loop-slot-preserved : goal.loop-slot-preserved
loop-slot-preserved g c =
    let points = sym c.pointer-block.ensures in
    elim c.if-block-ne0.branch [
      | then-block-ne0+else-not-is_right_block+else-named-block-ne0 w ↦
          rw w.named-is (slots-named c.args.image.now c.args.inode c.loop-slot.slot c.pointer-block.result
          c.loop-slot.named c.requires.live points w.if-block-ne0.true
          (sym w.is_right_block.ensures.value ∙ w.if-not-is_right_block.false)
          (w.is_right_block.ensures.within w.if-not-is_right_block.false) w.if-named-block-ne0.false
          c.loop-slot.invariant)
      | else-block-ne0 w ↦ rw w.named-is (slots-empty c.args.image.now c.args.inode c.loop-slot.slot c.loop-slot.named
          (points ∙ w.if-block-ne0.false) c.loop-slot.invariant)
    ]

pub returns : goal.returns
returns g c = passed-row (slots_of c.args.image.now) c.args.inode c.loop-slot.slot c.loop-slot.named (omega arith)
    c.loop-slot.invariant
