use Rattle.fault_deciding.proofs.EntriesSoFar.{directory_start, directory_next}
use Rattle.fault_deciding.proofs.candidates.by_entry.push_directory.Goals as goal

pub loop-k-init : goal.loop-k-init
loop-k-init g c = directory_start c.args.bytes.now c.args.dir c.args.faults.now.items c.args.most.now c.requires.few

pub loop-k-preserved : goal.loop-k-preserved
loop-k-preserved g c =
    let values = c.entries-values.result in
    directory_next c.args.bytes.now c.args.dir c.loop-k.k values.low values.high c.args.faults.now.items
    c.loop-k.faults.items c.push_dangling.new.faults.items c.args.most.now c.loop-k.most c.count_named.new.most
    c.entries-values.type_inv.1.1.1.0.1
    c.entries-values.ensures c.in_ok-push_dangling.ensures.kept c.in_ok-push_dangling.ensures.dangling
    c.count_named.ensures c.loop-k.invariant
