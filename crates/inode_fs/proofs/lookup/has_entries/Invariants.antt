use Rattle.std.proofs.Common.{◌≡◌, ℕ, ◌<◌, false}
use Rattle.crash_model.specs.Layout.{is_entry}
use Rattle.inode_fs.proofs.lookup.has_entries.Given as goal

abbrev pub invariant-loop-k : goal.invariant-loop-k
invariant-loop-k g l = (k : ℕ) → k < l.k → is_entry l.image l.dir k ≡ false
