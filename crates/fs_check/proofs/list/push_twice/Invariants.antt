use Rattle.std.proofs.Common.{◌≡◌, ◌++◌}
use Rattle.crash_model.specs.Lists.{some_below}
use Rattle.fs_check.specs.References.{twice_at}
use Rattle.fs_check.proofs.list.push_twice.Given as goal

abbrev pub invariant-loop-block : goal.invariant-loop-block
invariant-loop-block g l = l.found.items ≡ l.fn.found.items ++ some_below l.block (twice_at l.image)
