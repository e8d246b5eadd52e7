-- Sequences that are tried one after another.
use Rattle.std.specs.Prelude.{◌≡◌, ℕ, ◌+◌, ◌<◌, ◌^◌, List, [], ◌∷◌, ◌++◌, length, map, Bool, if◌then◌else◌, Result}
use Rattle.std.specs.Prelude.{IfOk, slice_index_or}
use Rattle.std.specs.Fork.{slice_chunk}
use Rattle.std.specs.List.{All, filter, flat_map, range_with_len}
use Rattle.arrayvec.specs.ArrayVec.{ArrayVec}
use Rattle.question_model.specs.Workloads.{Search}
use Rattle.question_model.specs.Verdict.{IsAccepted, IsVerdict}
use Rattle.workload_search.specs.Tallies.{Tried, IsTally, is_passing}
use Rattle.workload_search.specs.declared.batch.Batch.{Batch}

abbrev pub items_of : ArrayVec ℕ → List ℕ
items_of places = places.items

-- a sequence followed by each operation of a pool, in order
abbrev pub extensions_of : ℕ → List ℕ → List (List ℕ)
extensions_of pool front = map (λ place. front ++ place ∷ []) (range_with_len 0 pool)

-- the same of several sequences
abbrev pub extensions : ℕ → List (List ℕ) → List (List ℕ)
extensions pool fronts = flat_map (extensions_of pool) fronts

-- the sequences that pass
abbrev pub passing_of : List Tried → List (List ℕ)
passing_of tried = map (λ t. t.places) (filter (λ t. is_passing t.verdict) tried)

-- operations of the pool, none of which is refused, that one more can follow
pub record IsExtendable (s : Search) (pool : ℕ) (places : ArrayVec ℕ) : Type 0 where
  pub short : length places.items < 8
  pub among : All (λ place. place < pool) places.items
  pub accepted : IsAccepted s places.items

-- each of the sequences was tried, in order, and counted; those that pass are kept if they will be made longer
pub record IsBatch {A : Type 0} (s : Search) (keeps : Bool) (sequences : List (List ℕ)) (batch : Batch A) : Type 0 where
  pub tried : List Tried
  pub are : map (λ t. t.places) tried ≡ sequences
  pub right : All (λ t. IsVerdict s t.places t.verdict) tried
  pub tally : IsTally tried batch.tally
  pub passing : map items_of batch.passing.items ≡ (if keeps then passing_of tried else [])

-- this many more sequences can be counted
pub record BatchHasRoom {A : Type 0} (s : Search) (keeps : Bool) (more : ℕ) (batch : Batch A) : Type 0 where
  pub sequences : List (List ℕ)
  pub is : IsBatch s keeps sequences batch
  pub room : length sequences + more < 2 ^ 128

-- the sequences of both can be counted together
pub record HaveRoomFor {A : Type 0} (batch later : Batch A) : Type 0 where
  pub s : Search
  pub keeps : Bool
  pub sequences : List (List ℕ)
  pub others : List (List ℕ)
  pub is : IsBatch s keeps sequences batch
  pub after : IsBatch s keeps others later
  pub room : length sequences + length others < 2 ^ 128

-- each is what is found of the part with that number, of this number of beginnings
abbrev pub ArePartsOf : {A E : Type 0} → Search → Bool → ℕ → List (ArrayVec ℕ) → ℕ → List (Result (Batch A) E) → Type 0
ArePartsOf {A = A} {E = E} s keeps pool beginnings size parts =
    (n : ℕ) (d : Result (Batch A) E) → n < length parts
    → IfOk (slice_index_or parts n d) (IsBatch s keeps (extensions pool (map items_of (slice_chunk beginnings size n))))
