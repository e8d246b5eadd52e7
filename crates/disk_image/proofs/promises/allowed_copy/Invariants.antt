use Rattle.std.proofs.Common.{◌≡◌, take}
use Rattle.disk_image.proofs.promises.allowed_copy.Given as goal

abbrev pub invariant-loop-allowance : goal.invariant-loop-allowance
invariant-loop-allowance g l = l.copies.items ≡ take l.allowance-index l.allowed
