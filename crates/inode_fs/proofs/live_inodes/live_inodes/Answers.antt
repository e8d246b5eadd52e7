use Rattle.std.proofs.Common.{sym, ◌∙◌}
use Rattle.inode_fs.proofs.Live.{live-more, live-none}
use Rattle.inode_fs.proofs.live_inodes.live_inodes.Goals as goal
use Rattle.inode_fs.proofs.live_inodes.live_inodes.Goals.{then-is_live, else-is_live}

pub loop-inode-preserved : goal.loop-inode-preserved
loop-inode-preserved g c =
    let d = c.args.image.now in
    let n = c.loop-inode.inode in
    let live = c.loop-inode.live in
    elim c.if-is_live.branch [
      | then-is_live w ↦ rw (w.live-is, w.with_inode-live.ensures)
          (live-more d n live (sym c.is_live.ensures ∙ w.if-is_live.true) c.loop-inode.invariant)
      | else-is_live w ↦ rw w.live-is (live-none d n live (sym c.is_live.ensures ∙ w.if-is_live.false)
          c.loop-inode.invariant)
    ]
