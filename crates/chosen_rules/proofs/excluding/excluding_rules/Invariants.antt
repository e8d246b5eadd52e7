use Rattle.std.proofs.Common.{ℕ, ◌<◌}
use Rattle.std.specs.Prelude.{◌↔◌}
use Rattle.patch_sets.specs.Sets.{Has}
use Rattle.chosen_rules.specs.Excluded.{ExcludesAt}
use Rattle.chosen_rules.proofs.excluding.excluding_rules.Given as goal

abbrev pub invariant-loop-place : goal.invariant-loop-place
invariant-loop-place g l = (place : ℕ)
    → Has l.found place ↔ ((place < l.place) × ExcludesAt l.traced.emitted l.rules l.set place)
