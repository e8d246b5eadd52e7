-- Minimal sets of rules that are enough for a purpose, and minimal groups of which one is needed.
use Rattle.std.specs.Prelude.{◌≢◌, ℕ, List}
use Rattle.patch_sets.specs.Sets.{IsSubset}
use Rattle.crash_model.specs.declared.rules.Rule.{Rule}
use Rattle.question_model.specs.Enough.{ArePlaces, rules_in, rules_but}

-- a minimal set of rules that are enough for a purpose: those of no smaller part are
pub record IsMinimalFor (IsEnough : List Rule → Type 0) (rules : List Rule) (set : ℕ) : Type 0 where
  pub places : ArePlaces rules set
  pub enough : IsEnough (rules_in rules set)
  pub minimal : (part : ℕ) → IsSubset part set → part ≢ set → ¬ (IsEnough (rules_in rules part))

-- a minimal group of rules of which one is needed for it: all rules but the group are not enough, and all but a smaller
-- part of it are
pub record IsNeededFor (IsEnough : List Rule → Type 0) (rules : List Rule) (group : ℕ) : Type 0 where
  pub places : ArePlaces rules group
  pub some : group ≢ 0
  pub needed : ¬ (IsEnough (rules_but rules group))
  pub minimal : (part : ℕ) → IsSubset part group → part ≢ group → IsEnough (rules_but rules part)
