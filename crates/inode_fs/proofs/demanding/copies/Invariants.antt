use Rattle.std.proofs.Common.{◌≡◌, take}
use Rattle.inode_fs.proofs.demanding.copies.Given as goal

abbrev pub invariant-loop-disk : goal.invariant-loop-disk
invariant-loop-disk g l = l.copies.items ≡ take l.disk-index l.disks
