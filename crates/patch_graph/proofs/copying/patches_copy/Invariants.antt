use Rattle.std.proofs.Common.{◌≡◌, take}
use Rattle.patch_graph.proofs.copying.patches_copy.Given as goal

abbrev pub invariant-loop-patch : goal.invariant-loop-patch
invariant-loop-patch g l = l.copy.items ≡ take l.patch-index l.patches
