-- The faults of the family of all closed sets are those of the failing sets.
use Rattle.std.proofs.Common.{◌≡◌, ℕ, List, subst}
use Rattle.patch_sets.proofs.Bits.{none_in_empty}
use Rattle.crash_model.specs.Checker.{Demands}
use Rattle.crash_model.specs.declared.fault.Fault.{Fault}
use Rattle.known_bytes.specs.Chains.{Change}
use Rattle.known_bytes.specs.Family.{Family, IsMember}
use Rattle.fault_deciding.specs.Asked.{HasFaultOf, AreFoundByTest, AreAllOf}
use Rattle.fault_deciding.specs.Listed.{HasAllFaults, AreFoundByText}

-- nothing is held or barred
abbrev pub whole_of : Change → Family
whole_of c = record { base = c.base; patches = c.patches; held = 0; barred = 0 }

module _ (demands : Demands) (c : Change) (f : Family) (is : f ≡ whole_of c) where
  member : (fault : Fault) (set : ℕ) → HasFaultOf demands c fault set → IsMember (whole_of c) set
  member fault set its = record {
    closed = its.failing.closed;
    held = λ id has. absurd (none_in_empty id has);
    barred = λ id has _. none_in_empty id has;
  }

  pub all_listed : (list : List Fault) → HasAllFaults demands f list → AreAllOf (HasFaultOf demands c) list
  all_listed list all fault set its =
      let each : HasAllFaults demands (whole_of c) list = subst (λ (x : Family). HasAllFaults demands x list) is all in
      each set (member fault set its) fault its.found

  pub all_tested : AreFoundByText demands f → AreFoundByTest demands c
  all_tested all fault set its =
      let each : AreFoundByText demands (whole_of c) = subst (AreFoundByText demands) is all in
      each set (member fault set its) fault its.found
