use Rattle.std.proofs.Common.{◌≡◌, ◌++◌}
use Rattle.crash_model.specs.Lists.{some_below}
use Rattle.fs_check.specs.Strict.{bare_at}
use Rattle.fs_check.proofs.strict.push_bare.Given as goal

abbrev pub invariant-loop-inode : goal.invariant-loop-inode
invariant-loop-inode g l = l.found.items ≡ l.fn.found.items ++ some_below l.inode (bare_at l.image)
