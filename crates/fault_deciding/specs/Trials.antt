-- Faults that are tried, and what is taken of them.
use Rattle.std.specs.Prelude.{◌≡◌, ◌≢◌, ℕ, ◌+◌, ◌<◌, ◌⊎◌, List, [], ◌∷◌, ◌++◌, length, map, slice_index_or, Some}
use Rattle.std.specs.List.{All, AllPairs, Contains}
use Rattle.crash_model.specs.FaultOrder.{IsFaultBefore}
use Rattle.crash_model.specs.declared.fault.Fault.{Fault}
use Rattle.question_model.specs.declared.decided_fault.DecidedFault.{DecidedFault}
use Rattle.fault_deciding.specs.Asked.{IsFirstWith}
use Rattle.fault_deciding.specs.declared.sharing.Trial.{Trial}

abbrev pub fault_of : Trial → Fault
fault_of trial = trial.fault

abbrev pub decided_of : DecidedFault → Fault
decided_of decided = decided.fault

-- the first set that has the fault is known
abbrev pub IsTried : (Fault → ℕ → Type 0) → Trial → Type 0
IsTried has trial = IsFirstWith has trial.fault trial.first

-- the trials at each place are of the same fault
abbrev pub HaveSameFaults : List Trial → List Trial → Type 0
HaveSameFaults old new =
    (k : ℕ) (d : Trial) → k < length old → (slice_index_or new k d).fault ≡ (slice_index_or old k d).fault

-- no fault in the list comes before an earlier one in the order of faults
abbrev pub AreInOrder : {X : Type 0} → (X → Fault) → List X → Type 0
AreInOrder fault xs = AllPairs (λ a b. ¬ (IsFaultBefore (fault b) (fault a))) xs

-- the trial that found a fault
abbrev pub trial_of : DecidedFault → Trial
trial_of decided = record { fault = decided.fault; first = Some decided.first }

-- each fault that a trial found, once and in ascending order, with the set that a trial found
pub record AreFound (trials : List Trial) (faults : List DecidedFault) : Type 0 where
  pub ordered : AllPairs (λ a b. IsFaultBefore a.fault b.fault) faults
  pub each : All (λ f. Contains trials (trial_of f)) faults
  pub every : (f : DecidedFault) → Contains trials (trial_of f) → Contains (map decided_of faults) f.fault

-- the fault is one of these
abbrev pub IsAmong : List DecidedFault → Fault → Type 0
IsAmong faults fault = Contains (map decided_of faults) fault

-- the fault is not the last of these
abbrev pub IsNotLast : List DecidedFault → Fault → Type 0
IsNotLast faults fault =
    (at : ℕ) (d : DecidedFault) → at + 1 ≡ length faults → (slice_index_or faults at d).fault ≢ fault

-- a fault is put at the end, or is there already
abbrev pub Adds : List DecidedFault → Fault → ℕ → List DecidedFault → Type 0
Adds old fault first new =
    (IsAmong old fault × (new ≡ old))
    ⊎ (IsNotLast old fault × (new ≡ old ++ record { fault = fault; first = first } ∷ []))
