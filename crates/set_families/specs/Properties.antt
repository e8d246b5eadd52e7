-- What is said of a property when it is asked of a family.
use Rattle.std.specs.Prelude.{ℕ, List, Bool, true, false, Result, Ok, Err}
use Rattle.set_families.specs.declared.family.Family.{Family}
use Rattle.set_families.specs.Families.{IsMember, IsUndecided}

-- true where P holds of the least member, false where it holds of no member, or an id that is undecided
abbrev pub IsAnswer : (ℕ → Type 0) → List ℕ → Family → Result Bool ℕ → Type 0
IsAnswer P deps family (Ok true) = P family.held
IsAnswer P deps family (Ok false) = (set : ℕ) → IsMember deps family set → ¬ (P set)
IsAnswer P deps family (Err id) = IsUndecided deps family id
