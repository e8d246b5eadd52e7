use Rattle.std.proofs.Common.{ℕ, ◌<◌}
use Rattle.patch_sets.specs.Sets.{Has}
use Rattle.chosen_rules.specs.Excluded.{WaitsOutside}
use Rattle.chosen_rules.proofs.excluding.excludes.Given as goal

abbrev pub invariant-loop-later : goal.invariant-loop-later
invariant-loop-later g l = (q : ℕ) → q < l.later → Has l.set q → WaitsOutside l.traced.emitted l.rule l.set q → ⊥
