use Rattle.std.proofs.Common.{◌≡◌, ◌++◌, take}
use Rattle.traced_patches.specs.Labels.{links_by}
use Rattle.order_modules.proofs.other_graphs.link_all.Given as goal

abbrev pub invariant-loop-link : goal.invariant-loop-link
invariant-loop-link g l = l.log ≡ record l.initial.log {
  links =
      l.initial.log.links ++ links_by (take l.link-index l.links);
}
