-- What is counted of sequences that are tried one after another.
use Rattle.std.specs.Prelude.{◌≡◌, ℕ, ◌+◌, ◌-◌, ◌<◌, ◌^◌, ◌==◌, List, [], ◌∷◌, length, Bool, true, false, Option, Some}
use Rattle.std.specs.Prelude.{None, is_some, slice_index, slice_index_or}
use Rattle.std.specs.List.{count_by}
use Rattle.crash_model.specs.FaultKinds.{kind_number}
use Rattle.crash_model.specs.Refused.{refusal_number}
use Rattle.crash_model.specs.declared.fault_kind.FaultKind.{FaultKind}
use Rattle.crash_model.specs.declared.fault_kind.TheConstants.{KINDS}
use Rattle.crash_model.specs.declared.refusal.Refusal.{Refusal}
use Rattle.crash_model.specs.declared.refusal.TheConstants.{REFUSALS}
use Rattle.question_model.specs.declared.verdict.Verdict.{Verdict}
use Rattle.question_model.specs.declared.verdict.Verdict.TheVariants as verdict
use Rattle.workload_search.specs.declared.kinds.First.{First}
use Rattle.workload_search.specs.declared.kinds.KindTally.{KindTally}
use Rattle.workload_search.specs.declared.tally.SearchTally.{SearchTally}

-- a sequence that was tried, and what was said of it
pub record Tried : Type 0 where
  pub places : List ℕ
  pub verdict : Verdict

abbrev pub tried_as : List ℕ → Verdict → Tried
tried_as places verdict = record { places = places; verdict = verdict }

-- ---- what a verdict says

abbrev pub is_accepted : Verdict → Bool
is_accepted (verdict.Refused reason) = false
is_accepted verdict.Passes = true
is_accepted (verdict.Fails firsts) = true

abbrev pub is_passing : Verdict → Bool
is_passing (verdict.Refused reason) = false
is_passing verdict.Passes = true
is_passing (verdict.Fails firsts) = false

abbrev pub is_failing : Verdict → Bool
is_failing (verdict.Refused reason) = false
is_failing verdict.Passes = false
is_failing (verdict.Fails firsts) = true

-- the places of a reason, whose number is 2 or from 10 to 20, and of a kind, each in the order of the numbers
abbrev pub reason_place : Refusal → ℕ
reason_place reason = refusal_number reason - 9

abbrev pub kind_place : FaultKind → ℕ
kind_place kind = kind_number kind - 1

-- it is refused for the reason at that place
abbrev pub is_refused_at : ℕ → Verdict → Bool
is_refused_at i (verdict.Refused reason) = reason_place reason == i
is_refused_at i verdict.Passes = false
is_refused_at i (verdict.Fails firsts) = false

-- the first set of the kind at that place
abbrev pub first_at : ℕ → Verdict → Option ℕ
first_at i (verdict.Refused reason) = None
first_at i verdict.Passes = None
first_at i (verdict.Fails firsts) = slice_index_or firsts i None

-- ---- what is said of several

abbrev pub number_of : (Verdict → Bool) → List Tried → ℕ
number_of test tried = count_by (λ t. test t.verdict) tried

abbrev pub shows_at : ℕ → Verdict → Bool
shows_at i v = is_some (first_at i v)

abbrev pub or_else : {X : Type 0} → Option X → Option X → Option X
or_else None y = y
or_else (Some x) y = Some x

-- a first set with the places of its workload
abbrev pub with_places : List ℕ → Option ℕ → Option (List ℕ × ℕ)
with_places places None = None
with_places places (Some set) = Some (places, set)

-- the places of the first that shows a kind, and its first set
abbrev pub first_shown : ℕ → List Tried → Option (List ℕ × ℕ)
first_shown i [] = None
first_shown i (t ∷ ts) = or_else (with_places t.places (first_at i t.verdict)) (first_shown i ts)

-- ---- tallies

abbrev pub listed_first : Option First → Option (List ℕ × ℕ)
listed_first None = None
listed_first (Some first) = Some (first.places.items, first.set)

pub record IsKindTally (i : ℕ) (tried : List Tried) (kind : KindTally) : Type 0 where
  pub workloads : kind.workloads ≡ number_of (shows_at i) tried
  pub first : listed_first kind.first ≡ first_shown i tried

pub record IsTally {A : Type 0} (tried : List Tried) (tally : SearchTally A) : Type 0 where
  pub workloads : tally.workloads ≡ number_of is_accepted tried
  pub failing : tally.failing ≡ number_of is_failing tried
  pub refused_long : length tally.refused ≡ REFUSALS
  pub refused : (i : ℕ) → i < REFUSALS → slice_index tally.refused i ≡ number_of (is_refused_at i) tried
  pub kinds_long : length tally.kinds.items ≡ KINDS
  pub kinds : (i : ℕ) (d : KindTally) → i < KINDS → IsKindTally i tried (slice_index_or tally.kinds.items i d)

-- this many more sequences can be counted
pub record HasRoom {A : Type 0} (more : ℕ) (tally : SearchTally A) : Type 0 where
  pub tried : List Tried
  pub is : IsTally tried tally
  pub room : length tried + more < 2 ^ 128

-- the sequences of both can be counted together
pub record HaveRoom {A : Type 0} (tally later : SearchTally A) : Type 0 where
  pub tried : List Tried
  pub others : List Tried
  pub is : IsTally tried tally
  pub after : IsTally others later
  pub room : length tried + length others < 2 ^ 128

-- ---- lists of counts

pub record AreNoKinds (kinds : List KindTally) : Type 0 where
  pub long : length kinds ≡ KINDS
  pub none : (i : ℕ) (d : KindTally) → i < KINDS → IsKindTally i [] (slice_index_or kinds i d)

-- one more workload can be counted of each kind
abbrev pub KindsHaveRoom : List KindTally → Type 0
KindsHaveRoom kinds = (i : ℕ) (d : KindTally) → i < KINDS → (slice_index_or kinds i d).workloads + 1 < 2 ^ 128

abbrev pub KindsHaveRoomFor : List KindTally → List KindTally → Type 0
KindsHaveRoomFor kinds later =
    (i : ℕ) (d : KindTally) → i < KINDS
    → (slice_index_or kinds i d).workloads + (slice_index_or later i d).workloads < 2 ^ 128

-- what is counted of a kind with one more workload, which shows the kind if it has a first set
abbrev pub IsKindAdded : List ℕ → Option ℕ → KindTally → KindTally → Type 0
IsKindAdded places None old new = new ≡ old
IsKindAdded places (Some set) old new =
    (new.workloads ≡ old.workloads + 1)
    × (listed_first new.first ≡ or_else (listed_first old.first) (Some (places, set)))

pub record AreKindsAdded (places : List ℕ) (firsts : List (Option ℕ)) (old new : List KindTally) : Type 0 where
  pub long : length new ≡ length old
  pub each : (i : ℕ) (d : KindTally) → i < KINDS
      → IsKindAdded places (slice_index_or firsts i None) (slice_index_or old i d) (slice_index_or new i d)

pub record IsKindJoined (later old new : KindTally) : Type 0 where
  pub workloads : new.workloads ≡ old.workloads + later.workloads
  pub first : listed_first new.first ≡ or_else (listed_first old.first) (listed_first later.first)

pub record AreKindsJoined (later old new : List KindTally) : Type 0 where
  pub long : length new ≡ length old
  pub each : (i : ℕ) (d : KindTally) → i < KINDS
      → IsKindJoined (slice_index_or later i d) (slice_index_or old i d) (slice_index_or new i d)

pub record AreCountsJoined (old later new : List ℕ) : Type 0 where
  pub long : length new ≡ length old
  pub each : (i : ℕ) → i < REFUSALS → slice_index new i ≡ slice_index old i + slice_index later i
