use Rattle.std.proofs.Common.{◌≡◌, ◌≤◌, ◌*◌}
use Rattle.arrayvec.specs.ArrayVec.{array_vec_len}
use Rattle.crash_model.specs.Lists.{each_below, some_below}
use Rattle.fs_check.specs.TableCounts.{IsTally}
use Rattle.fs_check.specs.References.{wrong_at, named_at}
use Rattle.fs_check.proofs.references.read_pointers.Given as goal

abbrev pub invariant-loop-inode : goal.invariant-loop-inode
invariant-loop-inode g l = record {
  wrong : l.wrong.items ≡ each_below l.inode (λ inode. some_below 4 (wrong_at l.image inode));
  room : array_vec_len l.wrong ≤ 4 * l.inode;
  pointer_counts : IsTally 4 (named_at l.image) l.inode 0 l.pointer_counts;
}
