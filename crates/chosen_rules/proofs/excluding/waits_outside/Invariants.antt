use Rattle.std.proofs.Common.{ℕ, ◌<◌}
use Rattle.patch_sets.specs.Sets.{Has}
use Rattle.chosen_rules.specs.Excluded.{MakesWait}
use Rattle.chosen_rules.proofs.excluding.waits_outside.Given as goal

abbrev pub invariant-loop-earlier : goal.invariant-loop-earlier
invariant-loop-earlier g l =
    (p : ℕ) → p < l.earlier → MakesWait l.traced.emitted l.rule l.later p → (Has l.set p → ⊥) → ⊥
