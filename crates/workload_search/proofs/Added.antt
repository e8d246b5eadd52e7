-- What is counted of sequences with one more after them, by its verdict, and with some more.
use Rattle.std.proofs.Common.{◌≡◌, ℕ, ◌+◌, ◌<◌, List, [], ◌∷◌, ◌++◌, length, Bool, cond, true, false, Option, refl}
use Rattle.std.proofs.Common.{sym, subst, ap, ◌∙◌, arith, set, eqb-true, eq-eqb}
use Rattle.std.specs.Prelude.{slice_index, slice_index_or, ◌==◌}
use Rattle.std.proofs.lemmas.List.{get_or-set_same, get_or-set_other, length-set}
use Rattle.crash_model.specs.declared.refusal.Refusal.{Refusal}
use Rattle.question_model.specs.declared.verdict.Verdict.{Verdict}
use Rattle.question_model.specs.declared.verdict.Verdict.TheVariants as verdict
use Rattle.workload_search.specs.Tallies.{Tried, tried_as, reason_place, IsTally, AreKindsAdded, AreKindsJoined}
use Rattle.workload_search.specs.declared.kinds.KindTally.{KindTally}
use Rattle.workload_search.specs.declared.tally.SearchTally.{SearchTally}
use Rattle.workload_search.proofs.Tallied.{plus_none, tally_added}
use Rattle.workload_search.proofs.Verdicts.{reason_low}

-- ---- lists of counts

pub count_more : (counts : List ℕ) (p i : ℕ) → p < length counts
    → slice_index (set counts p (slice_index counts p + 1)) i ≡ slice_index counts i + cond (p == i) 1 0
count_more counts p i inside = by (p == i) refl
  where
    by : (b : Bool) → (p == i) ≡ b
        → slice_index (set counts p (slice_index counts p + 1)) i ≡ slice_index counts i + cond b 1 0
    by true e = subst (λ n. slice_index (set counts p (slice_index counts p + 1)) n ≡ slice_index counts n + 1)
        (eqb-true p i e) (get_or-set_same counts p (slice_index counts p + 1) 0 inside)
    by false e = get_or-set_other counts p i (slice_index counts p + 1) 0
        (λ same. let no : true ≡ false = sym (eq-eqb p i (sym same)) ∙ e in cc)
        ∙ sym (plus_none (slice_index counts i))

-- the same of equal lists
pub kinds_added : (places : List ℕ) (firsts : List (Option ℕ)) (old from new to : List KindTally) → from ≡ old
    → to ≡ new → AreKindsAdded places firsts from new → AreKindsAdded places firsts old to
kinds_added places firsts old from new to start end added =
    subst (λ (ks : List KindTally). AreKindsAdded places firsts ks to) start
    (subst (AreKindsAdded places firsts from) (sym end) added)

pub kinds_joined : (later behind old from new to : List KindTally) → behind ≡ later → from ≡ old → to ≡ new
    → AreKindsJoined behind from new → AreKindsJoined later old to
kinds_joined later behind old from new to more start end joined =
    subst (λ (ks : List KindTally). AreKindsJoined ks old to) more
    (subst (λ (ks : List KindTally). AreKindsJoined behind ks to) start
    (subst (AreKindsJoined behind from) (sym end) joined))

-- ---- one sequence more

module _ {A : Type 0} (tried : List Tried) (places : List ℕ) (v : Verdict) (old new : SearchTally A)
    (is : IsTally tried old) where
  pub added_refused : (reason : Refusal) (p : ℕ) → v ≡ verdict.Refused reason → p ≡ reason_place reason
      → new.workloads ≡ old.workloads → new.failing ≡ old.failing
      → new.refused ≡ set old.refused p (slice_index old.refused p + 1) → new.kinds.items ≡ old.kinds.items
      → IsTally (tried ++ tried_as places v ∷ []) new
  added_refused reason p said at workloads failing refused kinds =
      subst (λ w. IsTally (tried ++ tried_as places w ∷ []) new) (sym said)
      (tally_added tried places (verdict.Refused reason) old new is (record {
        workloads = workloads ∙ sym (plus_none old.workloads);
        failing = failing ∙ sym (plus_none old.failing);
        refused_long = ap length refused ∙ length-set old.refused p (slice_index old.refused p + 1);
        refused = λ i low. ap (λ (counts : List ℕ). slice_index counts i) refused
            ∙ (count_more old.refused p i inside ∙ ap (λ n. slice_index old.refused i + cond (n == i) 1 0) at);
        kinds_long = ap length kinds;
        kinds = λ i d low. ap (λ (ks : List KindTally). slice_index_or ks i d) kinds;
      }))
    where
      inside : p < length old.refused
      inside = omega (arith, is.refused_long, reason_low reason)

  pub added_passing : v ≡ verdict.Passes → new.workloads ≡ old.workloads + 1 → new.failing ≡ old.failing
      → new.refused ≡ old.refused → new.kinds.items ≡ old.kinds.items
      → IsTally (tried ++ tried_as places v ∷ []) new
  added_passing said workloads failing refused kinds =
      subst (λ w. IsTally (tried ++ tried_as places w ∷ []) new) (sym said)
      (tally_added tried places verdict.Passes old new is (record {
        workloads = workloads;
        failing = failing ∙ sym (plus_none old.failing);
        refused_long = ap length refused;
        refused = λ i low. ap (λ (counts : List ℕ). slice_index counts i) refused
            ∙ sym (plus_none (slice_index old.refused i));
        kinds_long = ap length kinds;
        kinds = λ i d low. ap (λ (ks : List KindTally). slice_index_or ks i d) kinds;
      }))

  pub added_failing : (firsts : List (Option ℕ)) → v ≡ verdict.Fails firsts → new.workloads ≡ old.workloads + 1
      → new.failing ≡ old.failing + 1 → new.refused ≡ old.refused
      → AreKindsAdded places firsts old.kinds.items new.kinds.items
      → IsTally (tried ++ tried_as places v ∷ []) new
  added_failing firsts said workloads failing refused kinds =
      subst (λ w. IsTally (tried ++ tried_as places w ∷ []) new) (sym said)
      (tally_added tried places (verdict.Fails firsts) old new is (record {
        workloads = workloads;
        failing = failing;
        refused_long = ap length refused;
        refused = λ i low. ap (λ (counts : List ℕ). slice_index counts i) refused
            ∙ sym (plus_none (slice_index old.refused i));
        kinds_long = kinds.long;
        kinds = kinds.each;
      }))
