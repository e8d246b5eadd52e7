use Rattle.std.proofs.Common.{◌≡◌, drop}
use Rattle.crash_model.specs.Plan.{with_changes}
use Rattle.inode_fs.proofs.applying.apply.Given as goal

abbrev pub invariant-loop-change : goal.invariant-loop-change
invariant-loop-change g l = record {
  rest : with_changes l.image (drop l.change-index l.plan.items) ≡ with_changes l.fn.image l.plan.items;
  blocks : l.image.blocks ≡ l.fn.image.blocks;
  journal : l.image.journal ≡ l.fn.image.journal;
}
