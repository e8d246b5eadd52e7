use Rattle.std.proofs.Common.{◌<◌, length, get_or, arith}
use Rattle.crash_model.specs.declared.fault.Fault.TheVariants.{LowLinks}
use Rattle.fs_check.specs.References.{low_links_at}
use Rattle.fs_check.proofs.Found.{pushed, passed_over}
use Rattle.fs_check.proofs.Tallied.{low_links-many, low_links-few}
use Rattle.fs_check.proofs.list.push_low_links.Goals as goal
use Rattle.fs_check.proofs.list.push_low_links.Goals.{then-links-entries+in_ok-push, else-links-entries}

pub loop-inode-preserved : goal.loop-inode-preserved
loop-inode-preserved g c =
    let d = c.args.image.now in
    let inode = c.loop-inode.inode in
    let entry_counts = c.args.entry_counts.now in
    let within : inode < length entry_counts = omega (arith, c.loop-inode-test.true, c.fits-entry_counts) in
    elim c.if-links-entries.branch [
      | then-links-entries+in_ok-push w ↦ rw w.found-is (pushed (low_links_at d) inode
          (LowLinks inode (get_or entry_counts inode 0) c.links-links.result) c.args.found.now.items
          c.loop-inode.found.items _
          (low_links-many d inode c.links-links.result entry_counts within c.requires c.links-links.ensures
          w.if-links-entries.true) w.in_ok-push.ensures.items c.loop-inode.invariant)
      | else-links-entries w ↦ rw w.found-is (passed_over (low_links_at d) inode c.args.found.now.items
          c.loop-inode.found.items
          (low_links-few d inode entry_counts within c.requires
          (omega (arith, c.links-links.ensures, w.if-links-entries.false)))
          c.loop-inode.invariant)
    ]
