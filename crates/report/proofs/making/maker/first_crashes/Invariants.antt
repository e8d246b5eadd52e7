use Rattle.std.proofs.Common.{◌≡◌, map, take}
use Rattle.std.specs.List.{All}
use Rattle.report.specs.FirstCrashes.{IsFirstCrash, decided_of}
use Rattle.report.proofs.making.maker.first_crashes.Given as goal

abbrev pub invariant-loop-fault : goal.invariant-loop-fault
invariant-loop-fault g l = record {
  kept : l.maker ≡ l.initial.maker;
  decided : map decided_of l.crashes.items ≡ take l.fault-index l.faults;
  each : All (IsFirstCrash l.initial.maker.detail l.initial.maker.base l.initial.maker.patches) l.crashes.items;
}
