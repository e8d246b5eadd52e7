use Rattle.pool_judging.specs.Judging.{search_by}
use Rattle.report.specs.OnPools.{IsNeedOfSearch}
use Rattle.report.specs.Found.{Need}
use Rattle.report.proofs.OneMore.{all_more, field_more}
use Rattle.report.proofs.making.workloads.needs_of_workloads.Goals as goal

pub need_of_workloads-requires-clause-needed : goal.need_of_workloads-requires-clause-needed
need_of_workloads-requires-clause-needed g c =
    c.requires.needed c.loop-group.group-index 0 c.loop-group-test.true

pub loop-group-preserved : goal.loop-group-preserved
loop-group-preserved g c =
    let before = c.loop-group.invariant in
    record {
      groups = field_more (λ (n : Need). n.group) c.args.groups.now c.loop-group.group-index 0
          c.loop-group.needs.items _ _
          c.loop-group-test.true before.groups c.in_ok-need_of_workloads.ensures.group c.in_ok-push.ensures.items;
      needs = all_more (IsNeedOfSearch (search_by c.args.rules.now.judge.now) c.args.explain) c.loop-group.needs.items _
          _ before.needs c.in_ok-need_of_workloads.ensures.need c.in_ok-push.ensures.items;
    }
