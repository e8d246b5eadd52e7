use Rattle.std.proofs.Common.{◌≡◌, ◌++◌, ◌≤◌, ◌+◌, ◌*◌}
use Rattle.arrayvec.specs.ArrayVec.{array_vec_len}
use Rattle.crash_model.specs.Lists.{some_below}
use Rattle.fs_check.specs.TableCounts.{IsTally}
use Rattle.fs_check.specs.References.{wrong_at, named_at}
use Rattle.fs_check.proofs.references.read_slots.Given as goal

abbrev pub invariant-loop-slot : goal.invariant-loop-slot
invariant-loop-slot g l = record {
  wrong : l.wrong.items ≡ l.fn.wrong.items ++ some_below l.slot (wrong_at l.image l.inode);
  room : array_vec_len l.wrong ≤ 4 * l.inode + l.slot;
  pointer_counts : IsTally 4 (named_at l.image) l.inode l.slot l.pointer_counts;
}
