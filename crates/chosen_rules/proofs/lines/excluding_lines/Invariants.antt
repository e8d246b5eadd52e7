use Rattle.std.proofs.Common.{ℕ, ◌<◌}
use Rattle.std.specs.Prelude.{◌↔◌}
use Rattle.patch_sets.specs.Sets.{Has}
use Rattle.traced_patches.specs.Labels.{waits_by}
use Rattle.chosen_rules.specs.ExcludedBy.{ExcludesFaultAt}
use Rattle.chosen_rules.proofs.lines.excluding_lines.Given as goal

abbrev pub invariant-loop-place : goal.invariant-loop-place
invariant-loop-place g l = (place : ℕ) → Has l.lines place
    ↔ ((place < l.place) × ExcludesFaultAt l.traced.emitted (waits_by l.waits) l.found.first l.found.fault place)
