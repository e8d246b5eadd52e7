-- The faults that some sets have, each with the first set that has it.
use Rattle.std.specs.Prelude.{◌≢◌, ℕ, List, map}
use Rattle.std.specs.List.{All, AllPairs, Contains}
use Rattle.crash_model.specs.FaultOrder.{IsFaultBefore}
use Rattle.crash_model.specs.FirstSets.{IsFirst}
use Rattle.crash_model.specs.declared.fault.Fault.{Fault}
use Rattle.question_model.specs.declared.decided_fault.DecidedFault.{DecidedFault}

-- each fault that a set has is there once, in ascending order, with the first set that has it
pub record AreDecided (has : Fault → ℕ → Type 0) (faults : List DecidedFault) : Type 0 where
  pub ordered : AllPairs (λ a b. IsFaultBefore a.fault b.fault) faults
  pub each : All (λ f. IsFirst (has f.fault) f.first) faults
  pub every : (fault : Fault) (set : ℕ) → has fault set → Contains (map (λ f. f.fault) faults) fault

-- the first fault that any set has, with the first set that has it
pub record IsFirstDecided (has : Fault → ℕ → Type 0) (decided : DecidedFault) : Type 0 where
  pub first : IsFirst (has decided.fault) decided.first
  pub before : (other : Fault) (set : ℕ) → has other set → other ≢ decided.fault → IsFaultBefore decided.fault other
