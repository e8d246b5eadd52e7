-- Which sets of patches a rule excludes.
use Rattle.std.specs.Prelude.{◌≡◌, ℕ, ◌<◌, List, Some, IsTrue, slice_get}
use Rattle.patch_sets.specs.Sets.{Has}
use Rattle.crash_model.specs.Trace.{Emitted, applies}
use Rattle.crash_model.specs.declared.rules.Rule.{Rule}

-- the rule makes patch q wait for the earlier patch p
pub record MakesWait (emitted : List Emitted) (rule : Rule) (q p : ℕ) : Type 0 where
  pub order : p < q
  pub later : Emitted
  pub before : Emitted
  pub later_at : slice_get emitted q ≡ Some later
  pub before_at : slice_get emitted p ≡ Some before
  pub waits : IsTrue (applies rule later before)

-- the rule makes patch q wait for a patch outside the set
abbrev pub WaitsOutside : List Emitted → Rule → ℕ → ℕ → Type 0
WaitsOutside emitted rule set q = (p : ℕ) × MakesWait emitted rule q p × ¬ (Has set p)

-- the rule makes a patch of the set wait for one outside it
abbrev pub Excludes : List Emitted → Rule → ℕ → Type 0
Excludes emitted rule set = (q : ℕ) × Has set q × WaitsOutside emitted rule set q

-- the rule at a place of the list excludes the set
abbrev pub ExcludesAt : List Emitted → List Rule → ℕ → ℕ → Type 0
ExcludesAt emitted rules set place =
    (rule : Rule) × (slice_get rules place ≡ Some rule) × Excludes emitted rule set
