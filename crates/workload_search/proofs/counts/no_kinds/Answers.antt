use Rattle.std.proofs.Common.{refl, arith}
use Rattle.workload_search.proofs.Tallied.{empty_pushed, no_kinds_yet}
use Rattle.workload_search.proofs.counts.no_kinds.Goals as goal

pub loop-kind-preserved : goal.loop-kind-preserved
loop-kind-preserved g c =
    let so_far = c.loop-kind.invariant in
    let more = empty_pushed c.loop-kind.kinds.items c.push.new.self.items _ c.loop-kind._kind
    c.in_ok-push.ensures.items (record { workloads = refl; first = refl }) so_far.long so_far.empty in
    record { long = more.0; empty = more.1 }

pub returns : goal.returns
returns g c = no_kinds_yet c.loop-kind.kinds.items c.loop-kind._kind c.loop-kind.invariant.long
    c.loop-kind.invariant.empty (omega arith) (omega arith)
