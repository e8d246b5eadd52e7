use Rattle.std.proofs.Common.{◌≡◌, take}
use Rattle.enough_deciding.proofs.waiting.disks_copy.Given as goal

abbrev pub invariant-loop-disk : goal.invariant-loop-disk
invariant-loop-disk g l = l.copies.items ≡ take l.disk-index l.disks
