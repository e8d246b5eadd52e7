-- Whether any set fails, by the faults that were decided.
use Rattle.std.proofs.Common.{◌≡◌, ◌<◌, List, length, arith}
use Rattle.std.proofs.lemmas.List.{length-map}
use Rattle.crash_model.specs.Checker.{Demands}
use Rattle.crash_model.specs.Disk.{Disk}
use Rattle.crash_model.specs.FirstSets.{HasFault}
use Rattle.crash_model.specs.declared.fault.Fault.TheVariants.{HalfDone}
use Rattle.crash_model.specs.declared.patches.Patch.{Patch}
use Rattle.question_model.specs.Decided.{AreDecided}
use Rattle.question_model.specs.declared.decided_fault.DecidedFault.{DecidedFault}
use Rattle.fault_deciding.proofs.Firsts.{some_fault}
use Rattle.pool_judging.specs.Judging.{SomeFails}

module _ (demands : Demands) (base : Disk) (patches : List Patch) (faults : List DecidedFault)
    (decided : AreDecided (HasFault demands base patches) faults) where
  -- none, if there is no fault
  pub none_fails_without : length faults ≡ 0 → SomeFails demands base patches → ⊥
  none_fails_without none some =
      let fault = some_fault demands (record { base = base; patches = patches }) some.0 some.1 in
      let has = decided.every fault.0 some.0 fault.1 in
      omega (arith, has.1, length-map faults (λ (f : DecidedFault). f.fault), none)

  -- one, if there is a fault
  pub some_fails_with : 0 < length faults → SomeFails demands base patches
  some_fails_with inside =
      let first = decided.each 0 (record { fault = HalfDone; first = 0 }) inside in
      (_, first.among.failing)
