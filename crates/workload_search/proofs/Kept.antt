-- The workloads that do not fail, kept level by level.
use Rattle.std.proofs.Common.{◌≡◌, ℕ, ◌+◌, ◌<◌, ◌≤◌, ◌^◌, List, [], ◌∷◌, ◌++◌, length, map, Bool, true}
use Rattle.std.proofs.Common.{sym, subst, ap, ap₂, ◌∙◌, arith}
use Rattle.std.specs.Prelude.{if◌then◌else◌}
use Rattle.std.specs.List.{remove}
use Rattle.std.proofs.lemmas.List.{map-append}
use Rattle.arrayvec.specs.ArrayVec.{ArrayVec}
use Rattle.question_model.specs.Workloads.{Search, IsWorkload, Fails}
use Rattle.workload_search.specs.Passing.{AreAllPassing}
use Rattle.workload_search.specs.Tallies.{Tried, IsTally, is_passing}
use Rattle.workload_search.specs.Tries.{IsBatch, extensions, items_of, passing_of}
use Rattle.workload_search.specs.declared.batch.Batch.{Batch}
use Rattle.workload_search.specs.declared.tally.SearchTally.{SearchTally}
use Rattle.workload_search.proofs.Batches.{passing_join}
use Rattle.workload_search.proofs.Counted.{AreAllTried, IsTest, all_with}
use Rattle.workload_search.proofs.Searched.{IsSearchedTo, searched_none, searched_more}
use Rattle.workload_search.proofs.Sequences.{workload_tried, tried_workload}
use Rattle.workload_search.proofs.Verdicts as says

-- all sequences of up to so many operations are tried, and if they are kept, the empty one and those that pass are
-- among those that were kept or will be made longer
pub record IsKeptTo {A : Type 0} (s : Search) (pool made : ℕ) (keeps : Bool) (tally : SearchTally A)
    (passing beginnings : List (ArrayVec ℕ)) : Type 0 where
  pub searched : IsSearchedTo s pool made tally beginnings
  pub kept : keeps ≡ true → map items_of (passing ++ beginnings) ≡ [] ∷ passing_of searched.tried

-- at first the empty sequence is to be made longer
pub kept_none : {A : Type 0} (s : Search) (pool : ℕ) (keeps : Bool) (tally : SearchTally A)
    (passing beginnings : List (ArrayVec ℕ)) → IsTally [] tally → passing ≡ [] → map items_of beginnings ≡ [] ∷ []
    → IsKeptTo s pool 0 keeps tally passing beginnings
unfolding searched_none
kept_none s pool keeps tally passing beginnings is none one = record {
  searched = searched_none s pool tally beginnings is one;
  kept = λ _. ap (λ (xs : List (ArrayVec ℕ)). map items_of (xs ++ beginnings)) none ∙ one;
}

kept_more : (passing beginnings later : List (ArrayVec ℕ)) (tried others : List Tried)
    → map items_of (passing ++ beginnings) ≡ [] ∷ passing_of tried → map items_of later ≡ passing_of others
    → map items_of ((passing ++ beginnings) ++ later) ≡ [] ∷ passing_of (tried ++ others)
kept_more passing beginnings later tried others so_far more =
    map-append items_of (passing ++ beginnings) later
    ∙ (ap₂ (λ (a b : List (List ℕ)). a ++ b) so_far more
    ∙ ap (λ (a : List (List ℕ)). [] ∷ a) (sym (passing_join tried others)))

-- one level more; `longer` is whether its sequences that pass come out
pub kept_level : {A : Type 0} (s : Search) (pool made : ℕ) (keeps longer : Bool) (tally next : SearchTally A)
    (passing beginnings appended : List (ArrayVec ℕ)) (batch : Batch A) → pool ≡ length s.pool
    → length beginnings ≤ 2 ^ 63 → made < s.most → (keeps ≡ true → longer ≡ true)
    → (made + 1 < s.most → longer ≡ true) → (so_far : IsKeptTo s pool made keeps tally passing beginnings)
    (b : IsBatch s longer (extensions pool (map items_of beginnings)) batch)
    → IsTally (so_far.searched.tried ++ b.tried) next → (keeps ≡ true → appended ≡ passing ++ beginnings)
    → IsKeptTo s pool (made + 1) keeps next appended batch.passing.items
unfolding searched_more
kept_level s pool made keeps longer tally next passing beginnings appended batch same few low all out so_far b is more =
    record {
      searched = searched_more s pool made beginnings tally next longer batch same few low out so_far.searched b is;
      kept = λ whole. ap (λ (xs : List (ArrayVec ℕ)). map items_of (xs ++ batch.passing.items)) (more whole)
          ∙ kept_more passing beginnings batch.passing.items so_far.searched.tried b.tried (so_far.kept whole)
          (b.passing ∙ ap (λ (k : Bool). if k then passing_of b.tried else []) (all whole));
    }

-- without the first sequence
pub without_first : (xs : List (ArrayVec ℕ)) (first : List ℕ) (rest : List (List ℕ)) → map items_of xs ≡ first ∷ rest
    → map items_of (remove xs 0) ≡ rest
without_first [] first rest e = absurd cc
without_first (x ∷ xs) first rest e = let tail : map items_of xs ≡ rest = cc in tail

pub none_first : (xs : List (ArrayVec ℕ)) (first : List ℕ) (rest : List (List ℕ)) → map items_of xs ≡ first ∷ rest
    → length xs ≡ 0 → ⊥
none_first [] first rest e none = cc
none_first (x ∷ xs) first rest e none = absurd (omega (arith, none))

module _ (s : Search) (tried : List Tried) (all : AreAllTried s s.most tried) where
  passing_test : IsTest s s.most tried all (λ places. IsWorkload s places × (¬ (Fails s places))) is_passing
  passing_test = record {
    only = λ places w. (workload_tried s places w.0, w.0.most);
    into = λ t right tried short e.
        let it = says.passing s t.places t.verdict right e in
        (tried_workload s t.places tried short it.0, it.1);
    back = λ t right w. says.passing_back s t.places t.verdict right w.0.accepted w.1;
  }

  pub all_passing : (sequences : List (List ℕ)) → sequences ≡ passing_of tried → AreAllPassing s sequences
  all_passing sequences same = subst (AreAllPassing s) (sym same)
      (all_with s s.most tried all (λ places. IsWorkload s places × (¬ (Fails s places))) is_passing passing_test)
