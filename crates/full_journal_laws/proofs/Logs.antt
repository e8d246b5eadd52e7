-- A trace under the full journal as a log.
use Rattle.std.specs.Prelude.{◌≡◌, ℕ, ◌+◌, ◌<◌, List, [], ◌∷◌, ◌++◌, length, Bool, true, Some, Ok, slice_get}
use Rattle.crash_model.specs.Disk.{Disk, IsDisk}
use Rattle.patch_sets.specs.Sets.{has}
use Rattle.crash_model.specs.Sound.{IsSound}
use Rattle.crash_model.specs.Plan.{plan_of, with_changes}
use Rattle.crash_model.specs.Rules.{journal_rules}
use Rattle.crash_model.specs.Trace.{Emitted, Origin, journal_patches, touched_blocks, depends}
use Rattle.crash_model.specs.declared.operations.Op.{Op}
use Rattle.crash_model.specs.declared.plans.Change.{Change}

-- the emitted patches of operations, each with its origin
abbrev pub log_emitted : ℕ → Disk → ℕ → ℕ → List (Origin × List Change) → List Emitted
log_emitted n d t j [] = []
log_emitted n d t j (o ∷ ops) =
    journal_patches (with_changes d o.1) t j o.0 (touched_blocks n o.1) o.1
    ++ log_emitted n (with_changes d o.1) (t + 1) (j + 1 + length (touched_blocks n o.1)) ops

-- a set that has what its members depend on by the rules of the journal
abbrev pub IsClosedIn : Bool → List (List ℕ × List ℕ) → List Emitted → ℕ → Type 0
IsClosedIn whole links emitted set = (q p : ℕ) (x y : Emitted) → slice_get emitted q ≡ Some x
    → slice_get emitted p ≡ Some y → p < q → depends journal_rules whole links x p y ≡ true → has set q ≡ true
    → has set p ≡ true

-- a sound disk of n blocks, jl of them the journal's
pub record IsGood (n jl : ℕ) (d : Disk) : Type 0 where
  pub blocks : d.blocks ≡ n
  pub journal : d.journal ≡ jl
  pub disk : IsDisk d
  pub sound : IsSound d

-- these are the changes of the operations, one operation after another
abbrev pub ArePlans : Disk → List Op → List (List Change) → Type 0
ArePlans d [] [] = Unit {0}
ArePlans d (op ∷ ops) (cs ∷ plans) = (plan_of d op ≡ Ok cs) × ArePlans (with_changes d cs) ops plans
ArePlans d _ _ = ⊥
