-- Why no set is explored.
use Rattle.std.specs.Prelude.{◌≡◌, ◌≢◌, ℕ, List}
use Rattle.crash_model.specs.Patches.{ExceedsLimit}
use Rattle.crash_model.specs.declared.patches.Patch.{Patch}
use Rattle.crash_model.specs.declared.refusals.RunFault.{RunFault}
use Rattle.crash_model.specs.declared.refusals.RunFault.TheVariants.{TooMany, OutOfMemory}

-- unless it is out of memory, the one reason to refuse is that a crash can leave more sets than the limit
abbrev pub SaysTooMany : List Patch → ℕ → RunFault → Type 0
SaysTooMany patches limit fault = fault ≢ OutOfMemory → (fault ≡ TooMany) × ExceedsLimit patches limit
