-- From the trials of all candidates to the faults that are decided.
use Rattle.std.proofs.Common.{◌≡◌, ℕ, ◌<◌, ◌≤◌, List, ◌++◌, length, get_or, map, take, arith, refl, sym, subst, ap}
use Rattle.std.proofs.Common.{◌∙◌, IsPermutation}
use Rattle.std.specs.Prelude.{Option, Some, None}
use Rattle.std.specs.List.{All, Contains}
use Rattle.std.proofs.lemmas.List.{length-map, take-append-le, take_all}
use Rattle.std.proofs.Math.ListN.{get_or-map}
use Rattle.std.proofs.lemmas.List.Elements.{All-weaker, All-contains, Contains-get_or}
use Rattle.std.proofs.lemmas.List.Sorted.{IsPermutation-map, All-permutation, Contains-permutation}
use Rattle.crash_model.specs.FirstSets.{IsFirst}
use Rattle.crash_model.specs.declared.fault.Fault.{Fault}
use Rattle.question_model.specs.Decided.{AreDecided}
use Rattle.question_model.specs.declared.decided_fault.DecidedFault.{DecidedFault}
use Rattle.fault_deciding.specs.declared.sharing.Trial.{Trial}
use Rattle.fault_deciding.specs.Asked.{AreAllOf}
use Rattle.fault_deciding.specs.Trials.{fault_of, trial_of, IsTried, AreFound, HaveSameFaults}

-- a vector whose elements were changed in place, without its capacity
pub put_back : (xs rest : List Trial) (n : ℕ) → n ≡ length xs → take n (xs ++ rest) ≡ xs
put_back xs rest n long =
    let within : n ≤ length xs = omega arith in
    take-append-le n xs rest within ∙ take_all n xs (omega arith)

-- a trial of a fault is in the list
record HasTrial (trials : List Trial) (fault : Fault) : Type 0 where
  trial : Trial
  there : Contains trials trial
  its : trial.fault ≡ fault

trial_there : (trials : List Trial) (fault : Fault) → Contains (map fault_of trials) fault → HasTrial trials fault
trial_there trials fault (k, within, at_k) =
    let d : Trial = record { fault = fault; first = None } in
    let inside : k < length trials = omega (arith, within, length-map trials fault_of) in
    record {
      trial = get_or trials k d;
      there = Contains-get_or trials k d inside;
      its = sym (get_or-map fault_of trials k d) ∙ at_k;
    }

-- trials of the same faults, place by place
same_trials : (old new : List Trial) → length new ≡ length old → HaveSameFaults old new → (fault : Fault)
    → Contains (map fault_of old) fault → Contains (map fault_of new) fault
same_trials old new long same fault (k, within, at_k) =
    let d : Trial = record { fault = fault; first = None } in
    let inside : k < length old = omega (arith, within, length-map old fault_of) in (
      k,
      omega (arith, inside, long, length-map new fault_of),
      get_or-map fault_of new k d ∙ (same k d inside ∙ (sym (get_or-map fault_of old k d) ∙ at_k)),
    )

module _ (has : Fault → ℕ → Type 0) (candidates : List Fault) (blank mixed tried sorted : List Trial)
    (all : AreAllOf has candidates) (of_all : map fault_of blank ≡ candidates) (spread : IsPermutation blank mixed)
    (long : length tried ≡ length mixed) (same : HaveSameFaults mixed tried) (each : All (IsTried has) tried)
    (moved : IsPermutation tried sorted) where
  each_sorted : All (IsTried has) sorted
  each_sorted = All-permutation (IsTried has) tried sorted moved each

  there : (fault : Fault) → Contains candidates fault → HasTrial sorted fault
  there fault is = trial_there sorted fault
      (Contains-permutation (map fault_of tried) (map fault_of sorted) fault
      (IsPermutation-map fault_of tried sorted moved) (same_trials mixed tried long same fault
      (Contains-permutation (map fault_of blank) (map fault_of mixed) fault
      (IsPermutation-map fault_of blank mixed spread)
      (subst (λ (fs : List Fault). Contains fs fault) (sym of_all) is))))

  pub decided : (faults : List DecidedFault) → AreFound sorted faults → AreDecided has faults
  decided faults is = record {
    ordered = is.ordered;
    each = All-weaker (λ f. Contains sorted (trial_of f)) (λ f. IsFirst (has f.fault) f.first)
        (λ f inside. All-contains (IsTried has) sorted (trial_of f) each_sorted inside) faults is.each;
    every = λ fault set its. found fault set its (there fault (all fault set its));
  }
    where
      found : (fault : Fault) (set : ℕ) → has fault set → HasTrial sorted fault
          → Contains (map (λ f. f.fault) faults) fault
      found fault set its h = by h.trial.first refl
        where
          listed : IsTried has h.trial
          listed = All-contains (IsTried has) sorted h.trial each_sorted h.there

          by : (first : Option ℕ) → h.trial.first ≡ first → Contains (map (λ f. f.fault) faults) fault
          by None e = absurd (none (subst (λ (x : Trial). IsTried has x) plain listed))
            where
              plain : h.trial ≡ record { fault = fault; first = None }
              plain = ap (λ o. record { fault = h.trial.fault; first = o }) e
                  ∙ ap (λ f. record { fault = f; first = None }) h.its

              none : IsTried has (record { fault = fault; first = None }) → ⊥
              none out = out set its
          by (Some first) e = is.every (record { fault = fault; first = first })
              (subst (Contains sorted) plain h.there)
            where
              plain : h.trial ≡ record { fault = fault; first = Some first }
              plain = ap (λ o. record { fault = h.trial.fault; first = o }) e
                  ∙ ap (λ f. record { fault = f; first = Some first }) h.its
