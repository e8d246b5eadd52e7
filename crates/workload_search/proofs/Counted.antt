-- What is counted of all sequences that are tried.
use Rattle.std.proofs.Common.{◌≡◌, ℕ, ◌≤◌, List, [], ◌∷◌, length, map, Bool, true, false, Option, Some, None, refl}
use Rattle.std.proofs.Common.{sym, subst, ap, ◌∙◌, inl, inr, arith}
use Rattle.std.specs.Prelude.{◌↔◌, is_some}
use Rattle.std.specs.List.{All, AllPairs, Contains, filter}
use Rattle.std.proofs.lemmas.List.{length-map}
use Rattle.std.proofs.lemmas.List.Elements.{All-contains}
use Rattle.std.proofs.lemmas.List.Kept.{AllPairs-filter}
use Rattle.std.proofs.lemmas.List.Sums.{length-filter}
use Rattle.std.proofs.lemmas.Option.{some_pair_parts}
use Rattle.question_model.specs.Sequences.{IsSequenceBefore, AreAllSequences, CountsSequences}
use Rattle.question_model.specs.Workloads.{Search, IsWorkload, IsFailingWorkload, IsRefusedFor, ShowsKind}
use Rattle.crash_model.specs.declared.fault_kind.FaultKind.{FaultKind}
use Rattle.crash_model.specs.declared.refusal.Refusal.{Refusal}
use Rattle.patch_sets.proofs.Lists.{front_or_rest, in_front, in_rest}
use Rattle.question_model.specs.Verdict.{IsVerdict}
use Rattle.workload_search.specs.Tallies.{Tried, is_accepted, is_failing, is_refused_at, shows_at, first_at}
use Rattle.workload_search.specs.Tallies.{first_shown, number_of, reason_place, kind_place, or_else, with_places}
use Rattle.question_model.specs.declared.verdict.Verdict.{Verdict}
use Rattle.workload_search.proofs.Lists.{pairs_map, pairs_unmap, front_all, rest_pairs, in_map, from_map, in_filter}
use Rattle.workload_search.proofs.Lists.{from_filter}
use Rattle.workload_search.proofs.Order.{before_asymmetric, before_irreflexive}
use Rattle.workload_search.proofs.Sequences.{IsTriedSequence, workload_tried, tried_workload, refused_tried}
use Rattle.workload_search.proofs.Sequences.{tried_refused}
use Rattle.workload_search.proofs.Verdicts as says

abbrev pub places_of : Tried → List ℕ
places_of t = t.places

abbrev pub IsRight : Search → Tried → Type 0
IsRight s t = IsVerdict s t.places t.verdict

-- all tried sequences with at most this number of operations, in order, with what was said of them
pub record AreAllTried (s : Search) (most : ℕ) (tried : List Tried) : Type 0 where
  pub ordered : AllPairs IsSequenceBefore (map places_of tried)
  pub exactly : (places : List ℕ)
      → (Contains (map places_of tried) places ↔ (IsTriedSequence s places × (length places ≤ most)))
  pub right : All (IsRight s) tried

module _ (s : Search) (most : ℕ) (tried : List Tried) (all : AreAllTried s most tried) where
  -- the tried sequences of which a test says that they have a property, where the test is right
  pub record IsTest (P : List ℕ → Type 0) (test : Verdict → Bool) : Type 0 where
    pub only : (places : List ℕ) → P places → IsTriedSequence s places × (length places ≤ most)
    pub into : (t : Tried) → IsRight s t → IsTriedSequence s t.places → length t.places ≤ most
        → test t.verdict ≡ true → P t.places
    pub back : (t : Tried) → IsRight s t → P t.places → test t.verdict ≡ true

  pub all_with : (P : List ℕ → Type 0) (test : Verdict → Bool) → IsTest P test
      → AreAllSequences P (map places_of (filter (λ t. test t.verdict) tried))
  all_with P test is = record {
    ordered = pairs_map IsSequenceBefore places_of (filter (λ t. test t.verdict) tried)
        (AllPairs-filter (λ a b. IsSequenceBefore a.places b.places) (λ t. test t.verdict) tried
        (pairs_unmap IsSequenceBefore places_of tried all.ordered));
    exactly = λ places. (
      λ there.
          let it = from_map places_of (filter (λ t. test t.verdict) tried) places there in
          let kept = from_filter (λ t. test t.verdict) tried it.0 it.1 in
          let inside = (all.exactly it.0.places).0 (in_map places_of tried it.0 kept.0) in
          subst P it.2
          (is.into it.0 (All-contains (IsRight s) tried it.0 all.right kept.0) inside.0 inside.1 kept.1),
      λ holds.
          let it = from_map places_of tried places ((all.exactly places).1 (is.only places holds)) in
          subst (Contains (map places_of (filter (λ t. test t.verdict) tried))) it.2
          (in_map places_of (filter (λ t. test t.verdict) tried) it.0 (in_filter (λ t. test t.verdict) tried it.0 it.1
          (is.back it.0 (All-contains (IsRight s) tried it.0 all.right it.1) (subst P (sym it.2) holds)))),
    );
  }

  pub counts_with : (P : List ℕ → Type 0) (test : Verdict → Bool) → IsTest P test
      → CountsSequences P (number_of test tried)
  counts_with P test is = (
    map places_of (filter (λ t. test t.verdict) tried),
    all_with P test is,
    sym (length-map (filter (λ t. test t.verdict) tried) places_of ∙ length-filter (λ t. test t.verdict) tried),
  )

  -- some sequence has the property where the number is not 0
  pub some_with : (P : List ℕ → Type 0) (test : Verdict → Bool) → IsTest P test → (places : List ℕ) → P places
      → 1 ≤ number_of test tried
  some_with P test is places holds =
      let there = ((all_with P test is).exactly places).1 holds in
      omega (
        arith,
        length-map (filter (λ t. test t.verdict) tried) places_of,
        length-filter (λ t. test t.verdict) tried,
        there.1,
      )

module _ (s : Search) (tried : List Tried) (all : AreAllTried s s.most tried) where
  pub workloads : IsTest s s.most tried all (IsWorkload s) is_accepted
  workloads = record {
    only = λ places w. (workload_tried s places w, w.most);
    into = λ t right tried short e. tried_workload s t.places tried short (says.accepted s t.places t.verdict right e);
    back = λ t right w. says.accepted_back s t.places t.verdict right w.accepted;
  }

  pub failing : IsTest s s.most tried all (IsFailingWorkload s) is_failing
  failing = record {
    only = λ places w. (workload_tried s places w.0, w.0.most);
    into = λ t right tried short e.
        let it = says.failing s t.places t.verdict right e in
        (tried_workload s t.places tried short it.0, it.1);
    back = λ t right w. says.failing_back s t.places t.verdict right w.0.accepted w.1;
  }

  pub refused : (reason : Refusal)
      → IsTest s s.most tried all (IsRefusedFor s reason) (is_refused_at (reason_place reason))
  refused reason = record {
    only = λ places is. (refused_tried s reason places is, is.most);
    into = λ t right tried short e.
        tried_refused s reason t.places tried short (says.refusal s t.places t.verdict reason right e);
    back = λ t right is. says.refusal_back s t.places t.verdict reason right
        (record { fault = is.fault; refused = is.refused; because = is.because });
  }

  pub shown : (kind : FaultKind) → IsTest s s.most tried all (ShowsKind s kind) (shows_at (kind_place kind))
  shown kind = record {
    only = λ places is. (workload_tried s places is.workload, is.workload.most);
    into = λ t right tried short e. says.shown s t.places t.verdict kind right tried short e;
    back = λ t right is. says.shown_back s t.places t.verdict kind right is;
  }

-- ---- the first that shows a kind

-- the element that the first one is about
pub record IsFirstOf (i : ℕ) (tried : List Tried) (places : List ℕ) (set : ℕ) : Type 0 where
  pub t : Tried
  pub there : Contains tried t
  pub same : t.places ≡ places
  pub first : first_at i t.verdict ≡ Some set
  pub earliest : AllPairs IsSequenceBefore (map places_of tried) → (other : Tried) → Contains tried other
      → shows_at i other.verdict ≡ true → ¬ (IsSequenceBefore other.places places)

pub first_of : (i : ℕ) (tried : List Tried) (places : List ℕ) (set : ℕ) → first_shown i tried ≡ Some (places, set)
    → IsFirstOf i tried places set
first_of i [] places set e = absurd cc
first_of i (t ∷ ts) places set e = by (first_at i t.verdict) refl (first_of i ts places set) e
  where
    by : (o : Option ℕ) → first_at i t.verdict ≡ o
        → (first_shown i ts ≡ Some (places, set) → IsFirstOf i ts places set)
        → or_else (with_places t.places o) (first_shown i ts) ≡ Some (places, set) → IsFirstOf i (t ∷ ts) places set
    by (Some other) is later e =
        let parts = some_pair_parts t.places places other set e in
        let same : t.places ≡ places = parts.0 in
        let one : other ≡ set = parts.1 in
        record {
          t = t;
          there = in_front t ts;
          same = same;
          first = is ∙ ap (λ x. Some x) one;
          earliest = λ up o inside shows before. elim (front_or_rest t ts o inside) [
            | inl itself ↦ before_irreflexive t.places (subst (λ x. IsSequenceBefore x t.places)
                (ap places_of (sym itself)) (subst (IsSequenceBefore o.places) (sym same) before))
            | inr later ↦ before_asymmetric t.places o.places
                (All-contains (IsSequenceBefore t.places) (map places_of ts) o.places
                (front_all IsSequenceBefore t.places (map places_of ts) up) (in_map places_of ts o later))
                (subst (IsSequenceBefore o.places) (sym same) before)
          ];
        }
    by None is later e =
        let rest = later e in
        record {
          t = rest.t;
          there = in_rest t ts rest.t rest.there;
          same = rest.same;
          first = rest.first;
          earliest = λ up o inside shows before. elim (front_or_rest t ts o inside) [
            | inl itself ↦ let no : false ≡ true =
                sym (ap is_some is) ∙ (ap (λ (x : Tried). shows_at i x.verdict) itself ∙ shows) in cc
            | inr later ↦
                rest.earliest (rest_pairs IsSequenceBefore t.places (map places_of ts) up) o later shows before
          ];
        }

-- a first one is reported if one is shown
pub some_first : (i : ℕ) (tried : List Tried) (t : Tried) → Contains tried t → shows_at i t.verdict ≡ true
    → is_some (first_shown i tried) ≡ true
some_first i [] t there shows = absurd (let within = there.1 in omega arith)
some_first i (x ∷ xs) t there shows = by (first_at i x.verdict) refl (λ later. some_first i xs t later shows)
  where
    by : (o : Option ℕ) → first_at i x.verdict ≡ o → (Contains xs t → is_some (first_shown i xs) ≡ true)
        → is_some (or_else (with_places x.places o) (first_shown i xs)) ≡ true
    by (Some set) is rest = refl
    by None is rest = elim (front_or_rest x xs t there) [
      | inl itself ↦ absurd (let no : false ≡ true =
          sym (ap is_some is) ∙ (ap (λ (y : Tried). shows_at i y.verdict) itself ∙ shows) in cc)
      | inr later ↦ rest later
    ]
