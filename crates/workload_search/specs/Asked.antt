-- What is asked of workloads about the rules of a set.
use Rattle.std.specs.Prelude.{◌≡◌, ℕ, ◌%◌, ◌<◌, List, length, Result, IfOk, Vec, get_or, slice_index_or}
use Rattle.std.specs.List.{All}
use Rattle.question_model.specs.Enough.{rules_in}
use Rattle.enough_rules.specs.Asked.{AreBlockingGroups}
use Rattle.chosen_rules.specs.Sublists.{all_of}
use Rattle.question_model.specs.Workloads.{Search, Fails}
use Rattle.question_model.specs.EnoughFor.{AreEnoughFor, search_with}

-- the rules of the set are enough for the sequence: it does not fail by them
abbrev pub IsEnoughAt : Search → List ℕ → ℕ → Type 0
IsEnoughAt s places set = ¬ (Fails (search_with s (rules_in s.rules set)) places)

-- they are enough for all workloads of the search that do not fail
abbrev pub IsEnoughInSearch : Search → ℕ → Type 0
IsEnoughInSearch s set = AreEnoughFor s (rules_in s.rules set)

-- they are enough for each of several sequences
abbrev pub IsEnoughForEach : Search → List (List ℕ) → ℕ → Type 0
IsEnoughForEach s sequences set = All (λ places. IsEnoughAt s places set) sequences

-- they are enough for those that part number `part` gets, where the sequences are dealt out to so many parts in turn
abbrev pub IsEnoughForPart : Search → List (List ℕ) → ℕ → ℕ → ℕ → Type 0
IsEnoughForPart s sequences parts part set =
    (i : ℕ) (d : List ℕ) → i < length sequences → i % parts ≡ part → IsEnoughAt s (get_or sequences i d) set

-- groups of rules such that exactly the sets that have a rule of each are enough for that part
abbrev pub AreGroupsOfPart : {A : Type 0} → Search → List (List ℕ) → ℕ → ℕ → Vec ℕ A → Type 0
AreGroupsOfPart s sequences parts part groups =
    AreBlockingGroups (all_of s.rules) (IsEnoughForPart s sequences parts part) groups.items

-- each is what is found for the part of that number, of so many
abbrev pub AreGroupsOfParts : {A E : Type 0} → Search → List (List ℕ) → ℕ → List (Result (Vec ℕ A) E) → Type 0
AreGroupsOfParts {A = A} {E = E} s sequences parts found =
    (n : ℕ) (d : Result (Vec ℕ A) E) → n < parts
    → IfOk (slice_index_or found n d) (AreGroupsOfPart s sequences parts n)

-- the sequence at this place of a list is the first of the list that has a property
pub record IsFirstAt (P : List ℕ → Type 0) (sequences : List (List ℕ)) (i : ℕ) : Type 0 where
  pub within : i < length sequences
  pub here : (d : List ℕ) → P (get_or sequences i d)
  pub none_before : (j : ℕ) (d : List ℕ) → j < i → ¬ (P (get_or sequences j d))
