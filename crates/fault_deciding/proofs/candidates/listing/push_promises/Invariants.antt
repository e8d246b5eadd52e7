use Rattle.std.proofs.Common.{take}
use Rattle.fault_deciding.specs.Listed.{IsWithin, HasPromised}
use Rattle.fault_deciding.proofs.candidates.listing.push_promises.Given as goal

abbrev pub invariant-loop-promise : goal.invariant-loop-promise
invariant-loop-promise g l = record {
  kept : IsWithin l.fn.faults.items l.faults.items;
  promised : HasPromised (take l.promise-index l.promises) l.faults.items;
}
