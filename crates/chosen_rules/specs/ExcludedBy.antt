-- Which of a script's lines that wait exclude a fault of a set of patches.
use Rattle.std.specs.Prelude.{◌≡◌, ℕ, ◌<◌, ◌≤◌, ◌⊎◌, List, Some, slice_get}
use Rattle.patch_sets.specs.Sets.{Has, IsSubset}
use Rattle.crash_model.specs.Emitted.{Emitted}
use Rattle.crash_model.specs.Waiting.{Wait}
use Rattle.crash_model.specs.declared.fault.Fault.{Fault}
use Rattle.crash_model.specs.declared.fault.Fault.TheVariants.{BrokenPromise}

-- a patch of the set comes behind that of an id, and its operation behind a line
pub record HasBehind (emitted : List Emitted) (set id line : ℕ) : Type 0 where
  pub q : ℕ
  pub later : Emitted
  pub inside : Has set q
  pub order : id < q
  pub later_at : slice_get emitted q ≡ Some later
  pub before : line < later.origin.line

-- the line makes a patch of the set wait for an earlier one that the set lacks
pub record HoldsBack (emitted : List Emitted) (set : ℕ) (wait : Wait) : Type 0 where
  pub p : ℕ
  pub forced : Has wait.ids p
  pub lacks : ¬ (Has set p)
  pub behind : HasBehind emitted set p wait.line

-- the fault is of a promise that has an id, forced by the line, that the set lacks
pub record DelaysPromise (set : ℕ) (fault : Fault) (wait : Wait) : Type 0 where
  pub of : ℕ
  pub is : fault ≡ BrokenPromise of
  pub before : wait.line ≤ of
  pub lacks : ¬ (IsSubset wait.ids set)

abbrev pub ExcludesFault : List Emitted → ℕ → Fault → Wait → Type 0
ExcludesFault emitted set fault wait = HoldsBack emitted set wait ⊎ DelaysPromise set fault wait

-- the line at a place of the list excludes the fault
abbrev pub ExcludesFaultAt : List Emitted → List Wait → ℕ → Fault → ℕ → Type 0
ExcludesFaultAt emitted waits set fault place =
    (wait : Wait) × (slice_get waits place ≡ Some wait) × ExcludesFault emitted set fault wait
