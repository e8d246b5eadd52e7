-- How many closed sets exploring finds, and why it is refused.
use Rattle.std.proofs.Common.{◌≡◌, ◌≢◌, ℕ, ◌<◌, ◌≤◌, List, arith, refl}
use Rattle.std.specs.Prelude.{Result, Ok, Err, IfErr, IsErrAnd}
use Rattle.patch_sets.specs.Closed.{IsClosed}
use Rattle.patch_sets.specs.declared.explored.ExploreFault.{ExploreFault}
use Rattle.patch_sets.specs.declared.explored.ExploreFault.TheVariants as explore
use Rattle.patch_sets.proofs.Successors.{empty_closed}
use Rattle.state_space.specs.Counts.{HoldsOf}
use Rattle.state_space.proofs.Counting.{not_more}
use Rattle.crash_model.specs.ExploreRefusals.{run_of_explore}
use Rattle.crash_model.specs.Patches.{deps_of, CountsClosed, ExceedsLimit}
use Rattle.crash_model.specs.declared.patches.Patch.{Patch}
use Rattle.crash_model.specs.declared.refusals.RunFault.{RunFault}
use Rattle.crash_text.specs.Exploring.{SaysTooMany}

module _ (patches : List Patch) (number : ℕ) (counted : CountsClosed patches number) where
  -- the empty set is closed, so there is one at least
  pub some_closed : 0 < number
  some_closed = let (words, are, is) = counted in
      let (place, inside, at) = are.every 0 (empty_closed (deps_of patches)) in
      omega (arith, inside, is)

  -- more than the limit
  pub past_limit : (limit : ℕ) → limit < number → ExceedsLimit patches limit
  past_limit limit more = let (words, are, is) = counted in
      (words, record { distinct = are.distinct; each = are.each }, omega (arith, more, is))

  -- a board that has room for all of them refuses only where memory is out
  pub refused_otherwise : {A : Type 0} (limit room : ℕ) (fault : ExploreFault) (result : Result A RunFault)
      → number ≤ room → IsErrAnd result (λ refusal. refusal ≡ run_of_explore fault)
      → (fault ≡ explore.TooMany → ExceedsLimit patches room) → IfErr result (SaysTooMany patches limit)
  refused_otherwise limit room fault (Ok x) enough is more = absurd is
  refused_otherwise limit room explore.TooMany (Err e) enough is more =
      absurd (not_more (IsClosed (deps_of patches)) number room counted enough (more refl))
  refused_otherwise limit room explore.OutOfMemory (Err e) enough is more = λ other. absurd (other is)
