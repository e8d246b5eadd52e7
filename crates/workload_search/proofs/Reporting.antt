-- The reasons and kinds that are reported, one after another.
use Rattle.std.proofs.Common.{◌≡◌, ℕ, ◌+◌, ◌<◌, ◌≤◌, List, [], ◌∷◌, ◌++◌, length, map, Option, Some, None}
use Rattle.std.proofs.Common.{sym, subst, ap, ◌∙◌, arith, inl, inr}
use Rattle.std.specs.Prelude.{slice_index, slice_index_or}
use Rattle.std.specs.List.{All, AllPairs, Contains}
use Rattle.std.proofs.lemmas.List.{length-append, map-append}
use Rattle.std.proofs.lemmas.List.Elements.{All-nil, All-push, All-weaker, Contains-push, Contains-append_left}
use Rattle.std.proofs.lemmas.List.Quantifiers.{all_pairs_push}
use Rattle.patch_sets.proofs.Bits.{eq_or_not}
use Rattle.crash_model.specs.FaultKinds.{kind_number}
use Rattle.crash_model.specs.Refused.{refusal_number}
use Rattle.crash_model.specs.declared.fault_kind.FaultKind.{FaultKind}
use Rattle.crash_model.specs.declared.fault_kind.TheConstants.{KINDS}
use Rattle.question_model.specs.declared.found.RefusedCount.{RefusedCount}
use Rattle.question_model.specs.declared.found.ShownKind.{ShownKind}
use Rattle.crash_model.specs.declared.refusal.Refusal.{Refusal}
use Rattle.crash_model.specs.declared.refusal.TheConstants.{REFUSALS}
use Rattle.workload_search.specs.Tallies.{reason_place, kind_place, listed_first}
use Rattle.workload_search.specs.Listed.{IsListedReason, AreListedReasons, IsListedKindTally, AreListedKinds}
use Rattle.workload_search.specs.declared.kinds.KindTally.{KindTally}
use Rattle.workload_search.proofs.Lists.{no_pairs}
use Rattle.workload_search.proofs.Verdicts.{same_place, reason_low}
use Rattle.crash_model.proofs.KindNumbers.{same_kind, kind_low}

-- ---- reasons

-- the reasons at the places below another
pub record AreListedReasonsBelow (counts : List ℕ) (i : ℕ) (refused : List RefusedCount) : Type 0 where
  pub few : length refused ≤ i
  pub low : All (λ r. reason_place r.reason < i) refused
  pub ordered : AllPairs (λ a b. refusal_number a.reason < refusal_number b.reason) refused
  pub each : All (IsListedReason counts) refused
  pub every : (reason : Refusal) → reason_place reason < i → 1 ≤ slice_index counts (reason_place reason)
      → Contains (map (λ r. r.reason) refused) reason

pub no_reasons : (counts : List ℕ) → AreListedReasonsBelow counts 0 []
no_reasons counts = record {
  few = omega arith;
  low = All-nil (λ r. reason_place r.reason < 0);
  ordered = no_pairs (λ a b. refusal_number a.reason < refusal_number b.reason);
  each = All-nil (IsListedReason counts);
  every = λ reason low some. absurd (omega arith);
}

pub reason_pushed : (counts : List ℕ) (i : ℕ) (refused : List RefusedCount) (r : RefusedCount)
    → AreListedReasonsBelow counts i refused → reason_place r.reason ≡ i → r.count ≡ slice_index counts i → 1 ≤ r.count
    → AreListedReasonsBelow counts (i + 1) (refused ++ r ∷ [])
reason_pushed counts i refused r are at count some = record {
  few = omega (arith, length-append refused (r ∷ []), are.few);
  low = All-push (λ r. reason_place r.reason < i + 1) refused r
      (All-weaker (λ r. reason_place r.reason < i) (λ r. reason_place r.reason < i + 1) (λ x less. omega arith) refused
      are.low) (omega arith);
  ordered = all_pairs_push (λ a b. refusal_number a.reason < refusal_number b.reason) refused r are.ordered
      (λ k d within. let less = are.low k d within in omega arith);
  each = All-push (IsListedReason counts) refused r are.each
      (record { count = count ∙ ap (slice_index counts) (sym at); some = some });
  every = λ reason less comes. subst (λ (rs : List Refusal). Contains rs reason)
      (sym (map-append (λ r. r.reason) refused (r ∷ [])))
      (elim (eq_or_not (reason_place reason) i) [
        | inl here ↦ subst (λ (x : Refusal). Contains (map (λ r. r.reason) refused ++ r.reason ∷ []) x)
            (same_place r.reason reason (at ∙ sym here)) (Contains-push (map (λ r. r.reason) refused) r.reason)
        | inr other ↦ Contains-append_left (map (λ r. r.reason) refused) (r.reason ∷ []) reason
            (are.every reason (omega arith) comes)
      ]);
}

-- a reason that does not come
pub reason_passed : (counts : List ℕ) (i : ℕ) (refused : List RefusedCount) → AreListedReasonsBelow counts i refused
    → slice_index counts i ≤ 0 → AreListedReasonsBelow counts (i + 1) refused
reason_passed counts i refused are none = record {
  few = omega (arith, are.few);
  low = All-weaker (λ r. reason_place r.reason < i) (λ r. reason_place r.reason < i + 1) (λ x less. omega arith)
      refused are.low;
  ordered = are.ordered;
  each = are.each;
  every = λ reason less comes. elim (eq_or_not (reason_place reason) i) [
    | inl here ↦ absurd (let same = ap (slice_index counts) here in omega arith)
    | inr other ↦ are.every reason (omega arith) comes
  ];
}

pub all_reasons : (counts : List ℕ) (i : ℕ) (refused : List RefusedCount) → AreListedReasonsBelow counts i refused
    → REFUSALS ≤ i → AreListedReasons counts refused
all_reasons counts i refused are all = record {
  ordered = are.ordered;
  each = are.each;
  every = λ reason comes. are.every reason (omega (arith, reason_low reason)) comes;
}

-- ---- kinds

pub record AreListedKindsBelow (kinds : List KindTally) (i : ℕ) (shown : List ShownKind) : Type 0 where
  pub few : length shown ≤ i
  pub low : All (λ k. kind_place k.kind < i) shown
  pub ordered : AllPairs (λ a b. kind_number a.kind < kind_number b.kind) shown
  pub each : All (IsListedKindTally kinds) shown
  pub every : (kind : FaultKind) (d : KindTally) (first : List ℕ × ℕ) → kind_place kind < i
      → listed_first (slice_index_or kinds (kind_place kind) d).first ≡ Some first
      → Contains (map (λ k. k.kind) shown) kind

pub no_kinds_listed : (kinds : List KindTally) → AreListedKindsBelow kinds 0 []
no_kinds_listed kinds = record {
  few = omega arith;
  low = All-nil (λ k. kind_place k.kind < 0);
  ordered = no_pairs (λ a b. kind_number a.kind < kind_number b.kind);
  each = All-nil (IsListedKindTally kinds);
  every = λ kind d first low some. absurd (omega arith);
}

pub kind_pushed : (kinds : List KindTally) (i : ℕ) (shown : List ShownKind) (k : ShownKind)
    → AreListedKindsBelow kinds i shown → kind_place k.kind ≡ i
    → ((d : KindTally) → k.workloads ≡ (slice_index_or kinds i d).workloads)
    → ((d : KindTally) → listed_first (slice_index_or kinds i d).first ≡ Some (k.places.items, k.first))
    → AreListedKindsBelow kinds (i + 1) (shown ++ k ∷ [])
kind_pushed kinds i shown k are at workloads first = record {
  few = omega (arith, length-append shown (k ∷ []), are.few);
  low = All-push (λ k. kind_place k.kind < i + 1) shown k
      (All-weaker (λ k. kind_place k.kind < i) (λ k. kind_place k.kind < i + 1) (λ x less. omega arith) shown
      are.low) (omega arith);
  ordered = all_pairs_push (λ a b. kind_number a.kind < kind_number b.kind) shown k are.ordered
      (λ j d within. let less = are.low j d within in omega arith);
  each = All-push (IsListedKindTally kinds) shown k are.each (record {
    workloads = λ d. workloads d ∙ ap (λ n. (slice_index_or kinds n d).workloads) (sym at);
    first = λ d. ap (λ n. listed_first (slice_index_or kinds n d).first) at ∙ first d;
  });
  every = λ kind d it less comes. subst (λ (ks : List FaultKind). Contains ks kind)
      (sym (map-append (λ k. k.kind) shown (k ∷ [])))
      (elim (eq_or_not (kind_place kind) i) [
        | inl here ↦ subst (λ (x : FaultKind). Contains (map (λ k. k.kind) shown ++ k.kind ∷ []) x)
            (same_kind k.kind kind (at ∙ sym here)) (Contains-push (map (λ k. k.kind) shown) k.kind)
        | inr other ↦ Contains-append_left (map (λ k. k.kind) shown) (k.kind ∷ []) kind
            (are.every kind d it (omega arith) comes)
      ]);
}

-- a kind that no workload shows
pub kind_passed : (kinds : List KindTally) (i : ℕ) (shown : List ShownKind) → AreListedKindsBelow kinds i shown
    → ((d : KindTally) → listed_first (slice_index_or kinds i d).first ≡ None) → AreListedKindsBelow kinds (i + 1) shown
kind_passed kinds i shown are none = record {
  few = omega (arith, are.few);
  low = All-weaker (λ k. kind_place k.kind < i) (λ k. kind_place k.kind < i + 1) (λ x less. omega arith) shown are.low;
  ordered = are.ordered;
  each = are.each;
  every = λ kind d it less comes. elim (eq_or_not (kind_place kind) i) [
    | inl here ↦ absurd (let no : ◌≡◌ {A = Option (List ℕ × ℕ)} None (Some it) =
        sym (none d) ∙ (ap (λ n. listed_first (slice_index_or kinds n d).first) (sym here) ∙ comes) in cc)
    | inr other ↦ are.every kind d it (omega arith) comes
  ];
}

pub all_kinds : (kinds : List KindTally) (i : ℕ) (shown : List ShownKind) → AreListedKindsBelow kinds i shown
    → KINDS ≤ i → AreListedKinds kinds shown
all_kinds kinds i shown are all = record {
  ordered = are.ordered;
  each = are.each;
  every = λ kind d it comes. are.every kind d it (omega (arith, kind_low kind)) comes;
}
