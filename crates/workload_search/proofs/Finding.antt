-- From what is counted of all sequences that are tried to what is found.
use Rattle.std.proofs.Common.{◌≡◌, ℕ, ◌≤◌, List, map, true, Option, Some, None, refl, sym, subst, ap, ◌∙◌}
use Rattle.std.proofs.Common.{arith}
use Rattle.std.specs.Prelude.{slice_index, slice_index_or, is_some}
use Rattle.std.specs.List.{Contains}
use Rattle.std.proofs.lemmas.List.Elements.{All-weaker, All-contains}
use Rattle.crash_model.specs.Checker.{Demands}
use Rattle.crash_model.specs.FirstSets.{IsFirst}
use Rattle.crash_model.specs.declared.patches.Patch.{Patch}
use Rattle.question_model.specs.SearchCounts.{AreSearchCounts, IsCounted, IsShown}
use Rattle.question_model.specs.Sequences.{IsSequenceBefore, CountsSequences}
use Rattle.question_model.specs.Workloads.{Search, IsWorkload, IsFailingWorkload, IsRefusedFor, ShowsKind, HasPatches}
use Rattle.question_model.specs.Workloads.{HasKind}
use Rattle.crash_model.specs.declared.fault_kind.FaultKind.{FaultKind}
use Rattle.question_model.specs.declared.found.SearchCounts.{SearchCounts}
use Rattle.question_model.specs.declared.found.RefusedCount.{RefusedCount}
use Rattle.question_model.specs.declared.found.ShownKind.{ShownKind}
use Rattle.crash_model.specs.declared.refusal.Refusal.{Refusal}
use Rattle.question_model.specs.Verdict.{IsVerdict, IsFirstOfKind}
use Rattle.workload_search.specs.Tallies.{Tried, IsTally, is_accepted, is_failing, is_refused_at, shows_at, first_at}
use Rattle.workload_search.specs.Tallies.{reason_place, kind_place, listed_first}
use Rattle.workload_search.specs.Listed.{IsListedTally, IsListedReason, IsListedKindTally}
use Rattle.question_model.specs.declared.verdict.Verdict.{Verdict}
use Rattle.question_model.specs.declared.verdict.Verdict.TheVariants as verdict
use Rattle.workload_search.specs.declared.kinds.KindTally.{KindTally}
use Rattle.workload_search.specs.declared.tally.SearchTally.{SearchTally}
use Rattle.workload_search.proofs.Counted.{AreAllTried, IsRight, IsFirstOf, places_of, counts_with, some_with}
use Rattle.workload_search.proofs.Counted.{workloads, failing, refused, shown, first_of, some_first}
use Rattle.workload_search.proofs.Lists.{in_map, from_map}
use Rattle.workload_search.proofs.Verdicts.{reason_low}
use Rattle.crash_model.proofs.KindNumbers.{kind_low}

-- any tally of a kind; it is read nowhere
blank : KindTally
blank = record { workloads = 0; first = None }

-- the first set of a verdict on a sequence with patches
first_set : (s : Search) (places : List ℕ) (v : Verdict) (kind : FaultKind) (set : ℕ) → IsVerdict s places v
    → first_at (kind_place kind) v ≡ Some set → (demands : Demands) (patches : List Patch)
    → HasPatches s places demands patches → IsFirst (HasKind kind demands s.base patches) set
first_set s places (verdict.Refused reason) kind set right e demands patches traced = absurd cc
first_set s places verdict.Passes kind set right e demands patches traced = absurd cc
first_set s places (verdict.Fails firsts) kind set right e demands patches traced =
    subst (IsFirstOfKind kind demands s.base patches) e (right.2 demands patches traced kind)

module _ {A : Type 0} (s : Search) (tried : List Tried) (all : AreAllTried s s.most tried) (tally : SearchTally A)
    (is : IsTally tried tally) where
  counted : (r : RefusedCount) → IsListedReason tally.refused r → IsCounted s r
  counted r listed = record {
    counted = subst (CountsSequences (IsRefusedFor s r.reason))
        (sym (listed.count ∙ is.refused (reason_place r.reason) (reason_low r.reason)))
        (counts_with s s.most tried all (IsRefusedFor s r.reason) (is_refused_at (reason_place r.reason))
        (refused s tried all r.reason));
    some = listed.some;
  }

  every_reason : (reason : Refusal) (places : List ℕ) → IsRefusedFor s reason places
      → 1 ≤ slice_index tally.refused (reason_place reason)
  every_reason reason places it =
      let some = some_with s s.most tried all (IsRefusedFor s reason) (is_refused_at (reason_place reason))
      (refused s tried all reason) places it in
      omega (arith, some, is.refused (reason_place reason) (reason_low reason))

  -- the first workload of a kind in the tally is the first that shows it
  first_listed : (k : ShownKind) → listed_first (slice_index_or tally.kinds.items (kind_place k.kind) blank).first
      ≡ Some (k.places.items, k.first) → IsFirstOf (kind_place k.kind) tried k.places.items k.first
  first_listed k listed = first_of (kind_place k.kind) tried k.places.items k.first
      (sym (is.kinds (kind_place k.kind) blank (kind_low k.kind)).first ∙ listed)

  is_shown : (k : ShownKind) → IsListedKindTally tally.kinds.items k → IsShown s k
  is_shown k listed =
      let i = kind_place k.kind in
      let test = shown s tried all k.kind in
      let first = first_listed k (listed.first blank) in
      let right = All-contains (IsRight s) tried first.t all.right first.there in
      let inside = (all.exactly first.t.places).0 (in_map places_of tried first.t first.there) in
      record {
        counted = subst (CountsSequences (ShowsKind s k.kind))
            (sym (listed.workloads blank ∙ (is.kinds i blank (kind_low k.kind)).workloads))
            (counts_with s s.most tried all (ShowsKind s k.kind) (shows_at i) test);
        earliest = record {
          among = subst (ShowsKind s k.kind) first.same
              (test.into first.t right inside.0 inside.1 (ap is_some first.first));
          first = λ other shows before.
              let at = from_map places_of tried other ((all.exactly other).1 (test.only other shows)) in
              first.earliest all.ordered at.0 at.1
              (test.back at.0 (All-contains (IsRight s) tried at.0 all.right at.1)
              (subst (ShowsKind s k.kind) (sym at.2) shows))
              (subst (λ (xs : List ℕ). IsSequenceBefore xs k.places.items) (sym at.2) before);
        };
        first = λ demands patches traced.
            first_set s first.t.places first.t.verdict k.kind k.first right first.first demands patches
            (subst (λ (xs : List ℕ). HasPatches s xs demands patches) (sym first.same) traced);
      }

  every_kind : (kind : FaultKind) (places : List ℕ) → ShowsKind s kind places
      → is_some (listed_first (slice_index_or tally.kinds.items (kind_place kind) blank).first) ≡ true
  every_kind kind places shows =
      let test = shown s tried all kind in
      let at = from_map places_of tried places ((all.exactly places).1 (test.only places shows)) in
      ap is_some (is.kinds (kind_place kind) blank (kind_low kind)).first
      ∙ some_first (kind_place kind) tried at.0 at.1 (test.back at.0
      (All-contains (IsRight s) tried at.0 all.right at.1) (subst (ShowsKind s kind) (sym at.2) shows))

  pub all_found : (found : SearchCounts) → IsListedTally tally found → AreSearchCounts s found
  all_found found listed = record {
    workloads = subst (CountsSequences (IsWorkload s)) (sym (listed.workloads ∙ is.workloads))
        (counts_with s s.most tried all (IsWorkload s) is_accepted (workloads s tried all));
    failing = subst (CountsSequences (IsFailingWorkload s)) (sym (listed.failing ∙ is.failing))
        (counts_with s s.most tried all (IsFailingWorkload s) is_failing (failing s tried all));
    refused = record {
      ordered = listed.refused.ordered;
      each = All-weaker (IsListedReason tally.refused) (IsCounted s) counted found.refused.items listed.refused.each;
      every = λ reason places it. listed.refused.every reason (every_reason reason places it);
    };
    kinds = record {
      ordered = listed.kinds.ordered;
      each = All-weaker (IsListedKindTally tally.kinds.items) (IsShown s) is_shown found.kinds.items listed.kinds.each;
      every = λ kind places shows. by kind
          (listed_first (slice_index_or tally.kinds.items (kind_place kind) blank).first) refl
          (every_kind kind places shows);
    };
  }
    where
      by : (kind : FaultKind) (o : Option (List ℕ × ℕ))
          → listed_first (slice_index_or tally.kinds.items (kind_place kind) blank).first ≡ o → is_some o ≡ true
          → Contains (map (λ k. k.kind) found.kinds.items) kind
      by kind None e some = absurd cc
      by kind (Some first) e some = listed.kinds.every kind blank first e
