use Rattle.std.proofs.Common.{◌≡◌, All, map, take}
use Rattle.pool_judging.specs.Judging.{search_by}
use Rattle.report.specs.OnPools.{IsFirstOfKind}
use Rattle.report.specs.Found.{Kind}
use Rattle.report.proofs.making.kinds.first_of_kinds.Given as goal

abbrev pub invariant-loop-shown : goal.invariant-loop-shown
invariant-loop-shown g l = record {
  shown : map (λ (k : Kind). k.shown) l.firsts.items ≡ take l.shown-index l.kinds;
  first : All (IsFirstOfKind (search_by l.judge) l.explain) l.firsts.items;
}
