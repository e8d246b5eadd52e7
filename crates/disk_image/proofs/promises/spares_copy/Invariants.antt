use Rattle.std.proofs.Common.{◌≡◌, take}
use Rattle.disk_image.proofs.promises.spares_copy.Given as goal

abbrev pub invariant-loop-spare : goal.invariant-loop-spare
invariant-loop-spare g l = l.copies.items ≡ take l.spare-index l.spares
