use Rattle.std.proofs.Common.{◌≡◌, map, take}
use Rattle.order_modules.proofs.Relabelling.{relabelled}
use Rattle.order_modules.proofs.other_graphs.labels_waiting.Given as goal

abbrev pub invariant-loop-label : goal.invariant-loop-label
invariant-loop-label g l =
    l.labels.items ≡ map (relabelled l.fn.traced.waits l.fn.chosen) (take l.label-index l.label-items)
