use Rattle.std.proofs.Common.{arith}
use Rattle.fault_deciding.proofs.EntriesSoFar.{entries_start, entries_next, entries_all, none_yet}
use Rattle.fault_deciding.proofs.candidates.by_entry.push_entries.Goals as goal

pub loop-dir-init : goal.loop-dir-init
loop-dir-init g c = entries_start c.args.bytes.now c.args.faults.now.items _ none_yet

pub loop-dir-preserved : goal.loop-dir-preserved
loop-dir-preserved g c =
    entries_next c.args.bytes.now c.loop-dir.dir c.args.faults.now.items c.loop-dir.faults.items
    c.push_directory.new.faults.items c.loop-dir.most c.push_directory.new.most
    c.in_ok-push_directory.ensures.kept c.in_ok-push_directory.ensures.dangling c.in_ok-push_directory.ensures.counted
    c.in_ok-push_directory.ensures.few c.loop-dir.invariant

pub returns-clause-most : goal.returns-clause-most
returns-clause-most g c = entries_all c.args.bytes.now c.loop-dir.dir c.loop-dir.most (omega arith)
    c.loop-dir.invariant.counted
