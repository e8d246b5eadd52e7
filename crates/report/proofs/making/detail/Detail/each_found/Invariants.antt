use Rattle.std.proofs.Common.{◌≡◌, map, take}
use Rattle.report.specs.Made.{found_of}
use Rattle.report.proofs.making.detail.Detail.each_found.Given as goal

abbrev pub invariant-loop-fault : goal.invariant-loop-fault
invariant-loop-fault g l = l.found.items ≡ map (found_of l.self l.set l.image) (take l.fault-index l.faults)
