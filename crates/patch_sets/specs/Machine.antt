-- A disk that writes blocks. A graph of patches is given by the list of their dependencies and the list of
-- their blocks. A write of a block is atomic; a crash leaves what is committed.
use Rattle.std.specs.Prelude.{◌≡◌, ◌≢◌, ℕ, ◌<◌, List, [], ◌∷◌, length, slice_index, ◌==◌, ◌⊎◌, if◌then◌else◌, bit_or}
use Rattle.patch_sets.specs.Sets.{Has}

-- a write of a block begins with a set of its patches, or ends
pub data Event : Type 0 where
  Begin : ℕ → ℕ → Event
  End : ℕ → Event

-- the patches that are committed, and those in flight for each block
pub record State : Type 0 where
  pub committed : ℕ
  pub in_flight : ℕ → ℕ

-- nothing in flight
abbrev pub at_rest : ℕ → State
at_rest committed = record { committed = committed; in_flight = λ block. 0 }

abbrev pub after : State → Event → State
after s (Begin block set) = record s { in_flight = λ b. if b == block then set else s.in_flight b }
after s (End block) =
    record {
      committed = bit_or s.committed (s.in_flight block);
      in_flight = λ b. if b == block then 0 else s.in_flight b;
    }

-- The block has nothing in flight and takes patches of its own that are not committed, at least one; each of
-- their dependencies is committed or goes with them.
pub record CanBegin (deps homes : List ℕ) (s : State) (block set : ℕ) : Type 0 where
  pub idle : s.in_flight block ≡ 0
  pub some : set ≢ 0
  pub own : (id : ℕ) → Has set id → (id < length deps) × (slice_index homes id ≡ block)
  pub new : (id : ℕ) → Has set id → ¬ (Has s.committed id)
  pub ready : (q p : ℕ) → Has set q → Has (slice_index deps q) p → Has s.committed p ⊎ Has set p

abbrev pub IsAllowed : List ℕ → List ℕ → State → Event → Type 0
IsAllowed deps homes s (Begin block set) = CanBegin deps homes s block set
IsAllowed deps homes s (End block) = s.in_flight block ≢ 0

-- each event is allowed when it comes
abbrev pub IsRun : List ℕ → List ℕ → State → List Event → Type 0
IsRun deps homes s [] = Unit {0}
IsRun deps homes s (e ∷ es) = IsAllowed deps homes s e × IsRun deps homes (after s e) es

abbrev pub state_after : State → List Event → State
state_after s [] = s
state_after s (e ∷ es) = state_after (after s e) es

-- the events are a run from nothing, after which this set is committed
pub record LeadTo (deps homes : List ℕ) (events : List Event) (set : ℕ) : Type 0 where
  pub run : IsRun deps homes (at_rest 0) events
  pub leaves : (state_after (at_rest 0) events).committed ≡ set

-- a crash can leave the set
abbrev pub CanLeave : List ℕ → List ℕ → ℕ → Type 0
CanLeave deps homes set = (events : List Event) × LeadTo deps homes events set
