use Rattle.std.proofs.Common.{◌≡◌, true}
use Rattle.crash_model.specs.Layout.{is_data}
use Rattle.crash_model.specs.declared.fault.Fault.TheVariants.{Twice}
use Rattle.fault_deciding.proofs.ListedSoFar.{AreBelow}
use Rattle.fault_deciding.proofs.candidates.listing.push_twice.Given as goal

abbrev pub invariant-loop-block : goal.invariant-loop-block
invariant-loop-block g l = AreBelow (λ b. is_data l.bytes.base b ≡ true) (λ b. Twice b) l.block l.initial.faults.items
    l.faults.items
