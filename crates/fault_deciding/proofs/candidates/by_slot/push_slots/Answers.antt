use Rattle.fault_deciding.proofs.ListedSoFar.{inodes_next}
use Rattle.fault_deciding.proofs.candidates.by_slot.push_slots.Goals as goal

pub loop-inode-preserved : goal.loop-inode-preserved
loop-inode-preserved g c = inodes_next c.args.bytes.now c.loop-inode.inode c.args.faults.now.items
    c.loop-inode.faults.items c.push_inode.new.faults.items c.in_ok-push_inode.ensures.kept
    c.in_ok-push_inode.ensures.slots c.loop-inode.invariant
