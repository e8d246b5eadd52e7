use Rattle.std.proofs.Common.{map, vec_len}
use Rattle.enough_rules.specs.Asked.{AreBlockingGroups}
use Rattle.chosen_rules.specs.Sublists.{all_of}
use Rattle.workload_search.specs.Tries.{items_of}
use Rattle.workload_search.proofs.Dealt.{IsEnoughFrom, AreFirstGroups}
use Rattle.workload_search.proofs.rules.sharing.groups_by.Given as goal

abbrev pub invariant-loop-part : goal.invariant-loop-part
invariant-loop-part g l =
    let s = g.J.RuleJudge.search l.judge in
    let sequences = map items_of l.workloads in
    let parts = l.workers.number in
    record {
      each : AreFirstGroups s sequences parts l.found.items;
      joined : AreBlockingGroups (all_of s.rules) (IsEnoughFrom s sequences parts (vec_len l.found)) l.groups.items;
    }

abbrev pub decreases-loop-part : goal.decreases-loop-part
decreases-loop-part g l = vec_len l.found
