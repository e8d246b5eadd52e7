-- Sequences that are dealt out to parts.
use Rattle.std.proofs.Common.{ℕ, ◌+◌, ◌%◌, ◌<◌, ◌≤◌, List, length, get_or, arith, inl, inr}
use Rattle.std.specs.Prelude.{◌↔◌, Result, IfOk, Vec, slice_index_or}
use Rattle.std.proofs.Math.Nat.{mod-lt}
use Rattle.std.proofs.lemmas.List.Elements.{All-contains, Contains-get_or}
use Rattle.chosen_rules.proofs.Graphs.{less_or_not}
use Rattle.chosen_rules.specs.Sublists.{all_of}
use Rattle.enough_rules.specs.Asked.{AreBlockingGroups}
use Rattle.enough_rules.specs.Enough.{AreEnoughSets}
use Rattle.enough_rules.specs.declared.sets.EnoughSets.{EnoughSets}
use Rattle.enough_rules.proofs.Found.{found_alike}
use Rattle.hitting_sets.specs.Hitting.{Hits}
use Rattle.question_model.specs.Sequences.{AreAllSequences}
use Rattle.question_model.specs.Workloads.{Search}
use Rattle.question_model.specs.EnoughFor.{IsPassing}
use Rattle.workload_search.specs.Asked.{IsEnoughAt, IsEnoughForEach, IsEnoughForPart, IsEnoughInSearch, AreGroupsOfPart}

-- the rules of the set are enough for what the parts from number n on get
abbrev pub IsEnoughFrom : Search → List (List ℕ) → ℕ → ℕ → ℕ → Type 0
IsEnoughFrom s sequences parts n set =
    (i : ℕ) (d : List ℕ) → i < length sequences → n ≤ i % parts → IsEnoughAt s (get_or sequences i d) set

-- each is what is found for the part of that number
abbrev pub AreFirstGroups : {A E : Type 0} → Search → List (List ℕ) → ℕ → List (Result (Vec ℕ A) E) → Type 0
AreFirstGroups {A = A} {E = E} s sequences parts found =
    (n : ℕ) (d : Result (Vec ℕ A) E) → n < length found
    → IfOk (slice_index_or found n d) (AreGroupsOfPart s sequences parts n)

module _ (s : Search) (sequences : List (List ℕ)) where
  -- there is no part from the last on
  pub behind_last : (parts : ℕ) → 0 < parts → (set : ℕ) → IsEnoughFrom s sequences parts parts set
  behind_last parts some set i d low past = absurd (omega (arith, mod-lt i some, past))

  -- one part more
  pub part_more : (parts n set : ℕ)
      → (IsEnoughFrom s sequences parts (n + 1) set × IsEnoughForPart s sequences parts n set)
      ↔ IsEnoughFrom s sequences parts n set
  part_more parts n set = (
    λ both i d low past. elim (less_or_not n (i % parts)) [
      | inl less ↦ both.0 i d low (omega (arith, less))
      | inr last ↦ both.1 i d low (omega (arith, past, last))
    ],
    λ from. (λ i d low past. from i d low (omega (arith, past)), λ i d low is. from i d low (omega (arith, is))),
  )

  -- all parts together have each sequence
  pub all_parts : (parts set : ℕ) → IsEnoughFrom s sequences parts 0 set ↔ IsEnoughForEach s sequences set
  all_parts parts set = (λ from k d low. from k d low (omega arith), λ each i d low past. each i d low)

  module _ (are : AreAllSequences (IsPassing s) sequences) where
    each_in_search : (set : ℕ) → IsEnoughForEach s sequences set ↔ IsEnoughInSearch s set
    each_in_search set = (
      λ each places both. All-contains (λ (p : List ℕ). IsEnoughAt s p set) sequences places each
          ((are.exactly places).1 both.0) both.1,
      λ enough k d low fails.
          let places = get_or sequences k d in
          enough places ((are.exactly places).0 (Contains-get_or sequences k d low), fails),
    )

    -- the sets that the groups say are those of the search
    pub found_in_search : {A : Type 0} (groups : List ℕ) (found : EnoughSets A)
        → AreBlockingGroups (all_of s.rules) (IsEnoughForEach s sequences) groups
        → AreEnoughSets (all_of s.rules) (Hits groups) found
        → AreEnoughSets (all_of s.rules) (IsEnoughInSearch s) found
    found_in_search groups found blocking = found_alike (all_of s.rules) (Hits groups) (IsEnoughInSearch s) found
        (λ set sub. (
          λ hits. (each_in_search set).0 ((blocking.exactly set sub).1 hits),
          λ enough. (blocking.exactly set sub).0 ((each_in_search set).1 enough),
        ))
