use Rattle.std.proofs.Common.{ℕ, subst}
use Rattle.std.specs.Prelude.{slice_index}
use Rattle.fault_deciding.specs.Listed.{InEachReplayed, HasLow}
use Rattle.fault_deciding.proofs.ListedSoFar.{lows_next}
use Rattle.fault_deciding.proofs.candidates.by_inode.push_low_links.Goals as goal

pub loop-inode-preserved : goal.loop-inode-preserved
loop-inode-preserved g c =
    let n = c.loop-inode.inode in
    let more = c.push_low.new.faults.items in
    lows_next c.args.bytes.now c.args.most.now n c.args.faults.now.items c.loop-inode.faults.items more
    c.in_ok-push_low.ensures.kept
    (subst (λ (k : ℕ). InEachReplayed c.args.bytes.now (HasLow more n (slice_index c.args.most.now k))) c.from.ensures
    c.in_ok-push_low.ensures.low) c.loop-inode.invariant
