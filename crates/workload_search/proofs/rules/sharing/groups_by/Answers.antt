use Rattle.std.proofs.Common.{◌≡◌, ℕ, ◌+◌, List, IfOk, map, vec_len, arith, sym, subst}
use Rattle.chosen_rules.specs.Sublists.{all_of}
use Rattle.enough_rules.specs.Asked.{AreBlockingGroups}
use Rattle.enough_rules.proofs.Joined.{none_blocking, both_blocking, blocking_same}
use Rattle.workload_search.specs.Tries.{items_of}
use Rattle.workload_search.specs.Asked.{IsEnoughForEach, IsEnoughForPart, AreGroupsOfPart}
use Rattle.workload_search.proofs.Dealt.{IsEnoughFrom, behind_last, part_more, all_parts}
use Rattle.workload_search.proofs.Popped.{before_last, of_last}
use Rattle.workload_search.proofs.rules.sharing.groups_by.Goals as goal

pub loop-part-init : goal.loop-part-init
loop-part-init g c =
    let s = g.J.RuleJudge.search c.args.judge.now in
    let sequences = map items_of c.args.workloads.now in
    let parts = c.args.workers.now.number in
    let all = all_of s.rules in
    let from = IsEnoughFrom s sequences parts in
    record {
      each = λ n d low. c.in_ok-found.ensures.each n d
          (omega (arith, low, c.in_ok-found.ensures.len, c.in_ok-found.found.ok.0));
      joined = subst (λ (n : ℕ). AreBlockingGroups all (from n) c.new-groups.result.items)
          (sym c.in_ok-found.ensures.len)
          (subst (λ (xs : List ℕ). AreBlockingGroups all (from parts) xs) (sym c.new-groups.ensures.items)
          (none_blocking all (from parts)
          (behind_last s sequences parts (omega (arith, c.args.workers.now.range.0)))));
    }

pub loop-part-preserved : goal.loop-part-preserved
loop-part-preserved g c =
    let s = g.J.RuleJudge.search c.args.judge.now in
    let sequences = map items_of c.args.workloads.now in
    let parts = c.args.workers.now.number in
    let all = all_of s.rules in
    let from = IsEnoughFrom s sequences parts in
    let left = c.pop.new.self in
    let n = vec_len left in
    let one : vec_len c.loop-part.found ≡ n + 1 = omega (arith, c.in-Some.ensures.cases) in
    let inv = c.loop-part.invariant in
    let last = of_last (λ k r. IfOk r (AreGroupsOfPart s sequences parts k)) c.loop-part.found.items left.items
    c.in-Some.part inv.each c.in-Some.ensures.items n left.ok.0 in
    let groups = subst (λ r. IfOk r (AreGroupsOfPart s sequences parts n)) c.in_ok-part.was last in
    let so_far = subst (λ (k : ℕ). AreBlockingGroups all (from k) c.loop-part.groups.items) one inv.joined in
    let both = both_blocking all (from (n + 1)) (IsEnoughForPart s sequences parts n) c.loop-part.groups.items
    c.in_ok-part.part.items so_far groups in
    record {
      each = before_last (λ k r. IfOk r (AreGroupsOfPart s sequences parts k)) c.loop-part.found.items left.items
          c.in-Some.part inv.each c.in-Some.ensures.items;
      joined = subst (λ (xs : List ℕ). AreBlockingGroups all (from n) xs) (sym c.in_ok-append.ensures.items)
          (blocking_same all (λ set. from (n + 1) set × IsEnoughForPart s sequences parts n set) (from n) _
          (part_more s sequences parts n) both);
    }

pub returns : goal.returns
returns g c =
    let s = g.J.RuleJudge.search c.args.judge.now in
    let sequences = map items_of c.args.workloads.now in
    let parts = c.args.workers.now.number in
    let all = all_of s.rules in
    let from = IsEnoughFrom s sequences parts in
    let none : vec_len c.loop-part.found ≡ 0 = c.in_default.ensures.cases.0 in
    blocking_same all (from 0) (IsEnoughForEach s sequences) c.loop-part.groups.items (all_parts s sequences parts)
    (subst (λ (k : ℕ). AreBlockingGroups all (from k) c.loop-part.groups.items) none c.loop-part.invariant.joined)
