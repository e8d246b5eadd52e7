use Rattle.std.proofs.Common.{◌≡◌, ◌≤◌, ◌+◌, ◌++◌, length}
use Rattle.crash_model.specs.Lists.{some_below}
use Rattle.crash_model.specs.Plan.{map_clear_at}
use Rattle.inode_fs.proofs.dropping.add_map_clears.Given as goal

abbrev pub invariant-loop-slot : goal.invariant-loop-slot
invariant-loop-slot g l = record {
  so_far : l.plan.items ≡ l.fn.plan.items ++ some_below l.slot (map_clear_at l.image l.inode);
  few : length l.plan.items ≤ length l.fn.plan.items + l.slot;
}
