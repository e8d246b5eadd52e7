use Rattle.std.proofs.Common.{◌≡◌, ℕ, ◌<◌, ◌≤◌}
use Rattle.std.specs.Prelude.{slice_index}
use Rattle.fault_deciding.specs.Listed.{CountsOne}
use Rattle.fault_deciding.proofs.candidates.by_entry.count_named.Given as goal

abbrev pub invariant-loop-inode : goal.invariant-loop-inode
invariant-loop-inode l = record {
  before : (inode : ℕ) → inode < l.inode
      → CountsOne l.values.low l.values.high inode (slice_index l.initial.most inode) (slice_index l.most inode);
  after : (inode : ℕ) → l.inode ≤ inode → slice_index l.most inode ≡ slice_index l.initial.most inode;
}
