-- Which rules of an ordering a trace needs, and which sets of them suffice. A set of rules is the set of their places
-- in the ordering's list.
use Rattle.std.specs.Prelude.{◌≢◌, ℕ, ◌<◌, List, length, Bool, not, if◌then◌else◌, None, slice_get}
use Rattle.patch_sets.specs.Sets.{Has, has, IsSubset}
use Rattle.crash_model.specs.Disk.{Disk}
use Rattle.crash_model.specs.Lists.{some_below}
use Rattle.crash_model.specs.OtherRules.{HasGraphBy}
use Rattle.crash_model.specs.Checker.{Demands, IsFailingUnder}
use Rattle.crash_model.specs.Tracing.{Tracing}
use Rattle.crash_model.specs.declared.rules.Rule.{Rule}

-- the places are those of rules of the list
abbrev pub ArePlaces : List Rule → ℕ → Type 0
ArePlaces rules set = (place : ℕ) → Has set place → place < length rules

-- the rules at the places that pass a test, in order
abbrev pub rules_where : List Rule → (ℕ → Bool) → List Rule
rules_where rules passes =
    some_below (length rules) (λ place. if passes place then slice_get rules place else None)

-- the rules of a set, and all rules but those of a set
abbrev pub rules_in : List Rule → ℕ → List Rule
rules_in rules set = rules_where rules (has set)

abbrev pub rules_but : List Rule → ℕ → List Rule
rules_but rules set = rules_where rules (λ place. not (has set place))

-- these rules are enough: no closed set of the patches by them fails
abbrev pub AreEnough : Demands → Disk → Tracing → List Rule → Type 0
AreEnough demands base s rules =
    HasGraphBy rules base s (λ patches. (set : ℕ) → ¬ (IsFailingUnder demands base patches set))

-- a minimal set of rules that are enough: those of no smaller part are
pub record IsMinimalEnough (demands : Demands) (base : Disk) (s : Tracing) (rules : List Rule) (set : ℕ) : Type 0 where
  pub places : ArePlaces rules set
  pub enough : AreEnough demands base s (rules_in rules set)
  pub minimal : (part : ℕ) → IsSubset part set → part ≢ set → ¬ (AreEnough demands base s (rules_in rules part))

-- a minimal group of rules of which one is needed: all rules but the group are not enough, and all but a smaller part
-- of it are
pub record IsNeeded (demands : Demands) (base : Disk) (s : Tracing) (rules : List Rule) (group : ℕ) : Type 0 where
  pub places : ArePlaces rules group
  pub some : group ≢ 0
  pub needed : ¬ (AreEnough demands base s (rules_but rules group))
  pub minimal : (part : ℕ) → IsSubset part group → part ≢ group → AreEnough demands base s (rules_but rules part)
