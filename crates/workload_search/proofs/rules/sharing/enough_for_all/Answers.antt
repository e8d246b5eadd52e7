use Rattle.std.proofs.Common.{ℕ, List, map, subst}
use Rattle.std.specs.List.{All}
use Rattle.patch_sets.specs.Sets.{IsSubset}
use Rattle.hitting_sets.proofs.Twice.{in_order_alike}
use Rattle.hitting_sets.specs.Hitting.{Hits}
use Rattle.enough_rules.specs.Enough.{AreEnoughSets, IsMinimalEnough, IsNeeded}
use Rattle.chosen_rules.specs.Sublists.{all_of}
use Rattle.question_model.specs.EnoughFor.{IsMinimalInSearch, IsNeededInSearch}
use Rattle.workload_search.specs.Tries.{items_of}
use Rattle.workload_search.specs.Asked.{IsEnoughInSearch}
use Rattle.workload_search.proofs.Alike.{minimal_same, needed_same}
use Rattle.workload_search.proofs.Dealt.{found_in_search}
use Rattle.workload_search.proofs.Items.{some_passing}
use Rattle.workload_search.proofs.rules.sharing.enough_for_all.Goals as goal

pub groups_by-requires-clause-passing : goal.groups_by-requires-clause-passing
groups_by-requires-clause-passing g c = λ _ _.
    some_passing (g.J.RuleJudge.search c.args.judge.now) c.args.passing.now c.requires

pub returns-clause-enough : goal.returns-clause-enough
returns-clause-enough g c =
    let s = g.J.RuleJudge.search c.args.judge.now in
    let all = all_of s.rules in
    let groups = c.in_ok-groups.groups.items in
    let found = c.in_ok-found.found in
    let hit = subst (λ (gs : List ℕ). (a : ℕ) → All (λ group. IsSubset group a) gs → AreEnoughSets a (Hits gs) found)
    c.deref.ensures.value c.in_ok-found.ensures in
    let blocking = c.in_ok-groups.ensures in
    in_order_alike (IsMinimalEnough all (IsEnoughInSearch s)) (IsMinimalInSearch s) found.enough.items (minimal_same s)
    (found_in_search s (map items_of c.args.passing.now) c.requires groups found blocking
    (hit all blocking.within)).minimal

pub returns-clause-needed : goal.returns-clause-needed
returns-clause-needed g c =
    let s = g.J.RuleJudge.search c.args.judge.now in
    let all = all_of s.rules in
    let groups = c.in_ok-groups.groups.items in
    let found = c.in_ok-found.found in
    let hit = subst (λ (gs : List ℕ). (a : ℕ) → All (λ group. IsSubset group a) gs → AreEnoughSets a (Hits gs) found)
    c.deref.ensures.value c.in_ok-found.ensures in
    let blocking = c.in_ok-groups.ensures in
    in_order_alike (IsNeeded all (IsEnoughInSearch s)) (IsNeededInSearch s) found.needed.items (needed_same s)
    (found_in_search s (map items_of c.args.passing.now) c.requires groups found blocking
    (hit all blocking.within)).needed
