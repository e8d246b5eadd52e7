use Rattle.std.proofs.Common.{◌≡◌, ℕ, ◌<◌, false}
use Rattle.crash_model.specs.Plan.{is_named}
use Rattle.path_lookup.proofs.lookup.entry_named.Given as goal

abbrev pub invariant-loop-k : goal.invariant-loop-k
invariant-loop-k g l = (k : ℕ) → k < l.k → is_named l.image l.dir l.name k ≡ false
