-- The canonical order of sets is total.
use Rattle.std.proofs.Common.{◌≢◌, ℕ, sym, inl, inr}
use Rattle.std.specs.Prelude.{◌⊎◌, count_ones}
use Rattle.state_space.proofs.Counting.{Order, below, same, above, order_of}
use Rattle.patch_sets.specs.Sets.{IsBefore}

-- one of two sets is before the other
pub order : (a b : ℕ) → a ≢ b → IsBefore a b ⊎ IsBefore b a
order a b apart = by_count (order_of (count_ones a) (count_ones b)) (order_of a b)
  where
    by_count : Order (count_ones a) (count_ones b) → Order a b → IsBefore a b ⊎ IsBefore b a
    by_count (below fewer) number = inl (inl fewer)
    by_count (above more) number = inr (inl more)
    by_count (same e) (below less) = inl (inr (e, less))
    by_count (same e) (same f) = absurd (apart f)
    by_count (same e) (above more) = inr (inr (sym e, more))
