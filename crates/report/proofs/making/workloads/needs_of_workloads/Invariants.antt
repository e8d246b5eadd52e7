use Rattle.std.proofs.Common.{◌≡◌, All, map, take}
use Rattle.pool_judging.specs.Judging.{search_by}
use Rattle.report.specs.OnPools.{IsNeedOfSearch}
use Rattle.report.specs.Found.{Need}
use Rattle.report.proofs.making.workloads.needs_of_workloads.Given as goal

abbrev pub invariant-loop-group : goal.invariant-loop-group
invariant-loop-group g l = record {
  groups : map (λ (n : Need). n.group) l.needs.items ≡ take l.group-index l.groups;
  needs : All (IsNeedOfSearch (search_by l.rules.judge.now) l.explain) l.needs.items;
}
