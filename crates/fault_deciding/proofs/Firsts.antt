-- From the sets in whose images a test finds a fault to the failing sets that have it.
use Rattle.std.proofs.Common.{◌≡◌, ℕ, List, [], ◌∷◌, Bool, refl, sym, subst, inl, inr}
use Rattle.std.specs.Prelude.{◌↔◌, Option, Some, None, MatchOption, IsTrue}
use Rattle.std.specs.List.{Contains}
use Rattle.patch_sets.specs.Sets.{IsBefore}
use Rattle.patch_sets.specs.Closed.{IsClosed}
use Rattle.patch_sets.proofs.Bits.{eq_or_not}
use Rattle.patch_sets.proofs.Canonical.{before_trans, before_self}
use Rattle.patch_sets.proofs.Lists.{in_front, in_none}
use Rattle.crash_model.specs.Patches.{deps_of, image_of}
use Rattle.crash_model.specs.Replay.{image_after_replay}
use Rattle.crash_model.specs.Checker.{Demands, faults_under, IsFailingUnder}
use Rattle.crash_model.specs.FirstSets.{IsFirst}
use Rattle.crash_model.specs.declared.fault.Fault.{Fault}
use Rattle.known_bytes.specs.Chains.{Change}
use Rattle.known_bytes.proofs.ListedSets.{all_listed}
use Rattle.set_families.specs.Firsts.{IsFirst as ComesFirst, IsFirstIfAny}
use Rattle.fault_deciding.specs.Asked.{LeavesFault, HasFaultOf, AreFoundByTest, IsFirstWith}

-- the first set that two properties hold of that hold of the same sets
module _ (P Q : ℕ → Type 0) (to : (s : ℕ) → P s → Q s) (from : (s : ℕ) → Q s → P s) where
  same_first : (set : ℕ) → ComesFirst P set → IsFirst Q set
  same_first set is = record {
    among = to set is.inside;
    first = λ other has sooner. elim (eq_or_not other set) [
      | inl e ↦ before_self set (subst (λ (o : ℕ). IsBefore o set) e sooner)
      | inr apart ↦ before_self set
          (before_trans set other set (is.before other (from other has) apart) sooner)
    ];
  }

  first_if_any : (found : Option ℕ) → IsFirstIfAny P found
      → MatchOption found ((s : ℕ) → Q s → ⊥) (IsFirst Q)
  first_if_any None none = λ s has. none s (from s has)
  first_if_any (Some set) is = same_first set is

-- a closed set in whose image the test finds a fault fails
pub fails_by_test : (demands : Demands) (c : Change) (fault : Fault) (set : ℕ) → IsClosed (deps_of c.patches) set
    → LeavesFault demands c fault set → HasFaultOf demands c fault set
fails_by_test demands c fault set closed leaves = record {
  failing = record {
    closed = closed;
    unclean = λ clean. in_none fault (subst (λ (fs : List Fault). Contains fs fault) clean.faultless there);
  };
  found = there;
}
  where
    there : Contains (faults_under demands set (image_after_replay (image_of c.base c.patches set))) fault
    there = all_listed demands set (image_after_replay (image_of c.base c.patches set)) fault leaves

module _ (demands : Demands) (c : Change) (fault : Fault) (deps : List ℕ) (about : deps ≡ deps_of c.patches)
    (tested : AreFoundByTest demands c) where
  abbrev Leaves : ℕ → Type 0
  Leaves set = IsClosed deps set × LeavesFault demands c fault set

  to_has : (set : ℕ) → Leaves set → HasFaultOf demands c fault set
  to_has set is = fails_by_test demands c fault set (subst (λ (ds : List ℕ). IsClosed ds set) about is.0) is.1

  from_has : (set : ℕ) → HasFaultOf demands c fault set → Leaves set
  from_has set is = (
    subst (λ (ds : List ℕ). IsClosed ds set) (sym about) is.failing.closed,
    tested fault set is,
  )

  pub first_with : (found : Option ℕ) → IsFirstIfAny Leaves found → IsFirstWith (HasFaultOf demands c) fault found
  first_with found is = first_if_any Leaves (HasFaultOf demands c fault) to_has from_has found is

  pub any_with : (answer : Bool)
      → IsTrue answer ↔ ((set : ℕ) × IsClosed deps set × LeavesFault demands c fault set)
      → IsTrue answer ↔ ((set : ℕ) × HasFaultOf demands c fault set)
  any_with answer is = (
    λ yes. let some = is.0 yes in (some.0, to_has some.0 (some.1, some.2)),
    λ some. let leaves = from_has some.0 some.1 in is.1 (some.0, leaves.0, leaves.1),
  )

-- a failing set has a fault
pub some_fault : (demands : Demands) (c : Change) (set : ℕ) → IsFailingUnder demands c.base c.patches set
    → (fault : Fault) × HasFaultOf demands c fault set
some_fault demands c set fails = by (faults_under demands set (image_after_replay (image_of c.base c.patches set))) refl
  where
    by : (fs : List Fault) → faults_under demands set (image_after_replay (image_of c.base c.patches set)) ≡ fs
        → (fault : Fault) × HasFaultOf demands c fault set
    by [] e = absurd (fails.unclean record { faultless = e })
    by (f ∷ fs) e = (
      f,
      record {
        failing = fails;
        found = subst (λ (gs : List Fault). Contains gs f) (sym e) (in_front f fs);
      },
    )

-- no set has a fault where no first set is found
pub none_with : (has : Fault → ℕ → Type 0) (fault : Fault) (found : Option ℕ) → ((set : ℕ) → found ≡ Some set → ⊥)
    → IsFirstWith has fault found → (set : ℕ) → has fault set → ⊥
none_with has fault None not none = none
none_with has fault (Some first) not is = absurd (not first refl)
