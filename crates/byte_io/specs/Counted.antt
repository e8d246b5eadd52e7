-- How calls of a device count as failures.
use Rattle.std.specs.Prelude.{◌≡◌, ℕ, ◌+◌, Result, MatchResult}
use Rattle.crash_model.specs.declared.refusals.RunFault.{RunFault}
use Rattle.crash_model.specs.declared.refusals.RunFault.TheVariants.{CannotRead, ScriptTooLong, OutOfMemory}

-- a failed call adds one, another none
abbrev pub Counts : {T E : Type 0} → Result T E → ℕ → ℕ → Type 0
Counts result old new = MatchResult result (λ _. new ≡ old) (λ _. new ≡ old + 1)

-- why a source was not read to its end
abbrev pub IsReadFault : RunFault → Type 0
IsReadFault fault = elim fault [ CannotRead ↦ Unit {0} | ScriptTooLong ↦ Unit {0} | OutOfMemory ↦ Unit {0} | _ ↦ ⊥ ]
