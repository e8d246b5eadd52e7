use Rattle.inode_fs.proofs.Live.{AreLive}
use Rattle.inode_fs.proofs.live_inodes.live_inodes.Given as goal

abbrev pub invariant-loop-inode : goal.invariant-loop-inode
invariant-loop-inode g l = AreLive l.image l.inode l.live
