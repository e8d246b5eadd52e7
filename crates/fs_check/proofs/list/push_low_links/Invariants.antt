use Rattle.std.proofs.Common.{◌≡◌, ◌++◌}
use Rattle.crash_model.specs.Lists.{some_below}
use Rattle.fs_check.specs.References.{low_links_at}
use Rattle.fs_check.proofs.list.push_low_links.Given as goal

abbrev pub invariant-loop-inode : goal.invariant-loop-inode
invariant-loop-inode g l = l.found.items ≡ l.fn.found.items ++ some_below l.inode (low_links_at l.image)
