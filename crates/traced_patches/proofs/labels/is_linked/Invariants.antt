use Rattle.std.proofs.Common.{◌≡◌, false, take}
use Rattle.crash_model.specs.Trace.{groups_depend}
use Rattle.traced_patches.specs.Labels.{links_by, emitted_of}
use Rattle.traced_patches.proofs.labels.is_linked.Given as goal

abbrev pub invariant-loop-link : goal.invariant-loop-link
invariant-loop-link l = groups_depend (links_by (take l.link-index l.links)) (emitted_of l.later) (emitted_of l.earlier)
    ≡ false
