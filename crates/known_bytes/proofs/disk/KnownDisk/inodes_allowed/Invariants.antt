use Rattle.std.specs.Prelude.{Some}
use Rattle.crash_model.specs.Paths.{inode_shown}
use Rattle.known_bytes.specs.Reading.{InEachDisk}
use Rattle.known_bytes.proofs.AtHomes.{AreSeen}
use Rattle.known_bytes.proofs.disk.KnownDisk.inodes_allowed.Given as goal

abbrev pub invariant-loop-inode : goal.invariant-loop-inode
invariant-loop-inode g l = AreSeen
    (λ inode. InEachDisk l.self (λ d. g.S.Showing.excuses l.showing (inode_shown d (Some inode)))) l.fn.inodes l.left

abbrev pub decreases-loop-inode : goal.decreases-loop-inode
decreases-loop-inode g l = l.left
