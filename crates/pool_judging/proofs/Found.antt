-- What is found of the sets that are enough in one sense is found in each sense that says the same.
use Rattle.std.proofs.Common.{ℕ}
use Rattle.std.specs.Prelude.{Option, Some, None}
use Rattle.enough_rules.specs.Asked.{IsFound}

module _ (all : ℕ) (enough other : ℕ → Type 0) (to : (set : ℕ) → enough set → other set)
    (from : (set : ℕ) → other set → enough set) where
  pub found_alike : (set : ℕ) (found : Option ℕ) → IsFound all enough set found → IsFound all other set found
  found_alike set None is = to set is
  found_alike set (Some group) (in_each, misses) = (
    record {
      within = in_each.within;
      met = λ one within is. in_each.met one within (from one is);
    },
    misses,
  )
