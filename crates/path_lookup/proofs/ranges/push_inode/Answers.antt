use Rattle.std.proofs.Common.{[], ◌==◌, List, length, ap, ◌∙◌, append-nil, length-append, sym, arith}
use Rattle.std.specs.Prelude.{if◌then◌else◌}
use Rattle.arrayvec.specs.ArrayVec.{ArrayVec}
use Rattle.crash_model.specs.Layout.{pointer_of}
use Rattle.crash_model.specs.Waiting.{block_ranges}
use Rattle.crash_model.specs.declared.ranges.Range.{Range}
use Rattle.path_lookup.proofs.Slots.{slot_added, slot_names, slot_names_none}
use Rattle.path_lookup.proofs.ranges.push_inode.Goals as goal
use Rattle.path_lookup.proofs.ranges.push_inode.Goals.{then-block-ne0, else-block-ne0}

pub loop-slot-preserved : goal.loop-slot-preserved
loop-slot-preserved g c =
    let pointer = pointer_of c.args.image.now c.args.inode in
    let added = slot_added (λ slot. if pointer slot == 0 then [] else block_ranges (pointer slot)) c.loop-slot.slot
    c.loop-slot.ranges.items in
    elim c.if-block-ne0.branch [
      | then-block-ne0 w ↦
          let pushed = ap (λ (r : ArrayVec Range). r.items) w.ranges-is ∙ w.push_block.ensures in
          record {
            rest = added (block_ranges c.pointer-block.result) _ _ c.loop-slot-test.true
                (slot_names block_ranges c.pointer-block.result (pointer c.loop-slot.slot) c.pointer-block.ensures
                w.if-block-ne0.true) pushed c.loop-slot.invariant.rest;
            room = omega (
              arith,
              ap (λ (xs : List Range). length xs) pushed,
              c.loop-slot.invariant.room,
              length-append c.loop-slot.ranges.items (block_ranges c.pointer-block.result),
            );
          }
      | else-block-ne0 w ↦
          let kept = ap (λ (r : ArrayVec Range). r.items) w.ranges-is in
          record {
            rest = added [] _ _ c.loop-slot-test.true
                (slot_names_none block_ranges c.pointer-block.result (pointer c.loop-slot.slot) c.pointer-block.ensures
                w.if-block-ne0.false) (kept ∙ sym (append-nil c.loop-slot.ranges.items)) c.loop-slot.invariant.rest;
            room = omega (arith, ap (λ (xs : List Range). length xs) kept, c.loop-slot.invariant.room);
          }
    ]
