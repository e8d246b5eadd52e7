use Rattle.std.proofs.Common.{◌≡◌, ◌≤◌, ◌+◌, ◌++◌, length}
use Rattle.crash_model.specs.Lists.{some_below}
use Rattle.crash_model.specs.Plan.{new_data_at}
use Rattle.inode_fs.proofs.saving.add_all_new_data.Given as goal

abbrev pub invariant-loop-slot : goal.invariant-loop-slot
invariant-loop-slot g l = record {
  so_far : l.plan.items ≡ l.fn.plan.items ++ some_below l.slot (new_data_at l.image l.inode);
  few : length l.plan.items ≤ length l.fn.plan.items + l.slot;
}
