use Rattle.fault_deciding.proofs.ListedSoFar.{slots_next}
use Rattle.fault_deciding.proofs.candidates.by_slot.push_inode.Goals as goal

pub loop-slot-preserved : goal.loop-slot-preserved
loop-slot-preserved g c = slots_next c.args.bytes.now c.args.inode c.loop-slot.slot c.args.faults.now.items
    c.loop-slot.faults.items c.push_slot.new.faults.items c.in_ok-push_slot.ensures.kept c.in_ok-push_slot.ensures.slot
    c.loop-slot.invariant
