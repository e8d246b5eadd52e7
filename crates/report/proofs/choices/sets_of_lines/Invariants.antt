use Rattle.std.proofs.Common.{◌≡◌, map, take}
use Rattle.traced_patches.specs.Labels.{waits_by}
use Rattle.report.specs.OnChoices.{lines_at}
use Rattle.report.proofs.choices.sets_of_lines.Given as goal

abbrev pub invariant-loop-places : goal.invariant-loop-places
invariant-loop-places l = l.all.items ≡ map (lines_at (waits_by l.waits)) (take l.places-index l.sets)
