use Rattle.std.proofs.Common.{◌≡◌, ◌<◌, drop}
use Rattle.crash_model.specs.Plan.{walk_end}
use Rattle.inode_fs.proofs.lookup.walk.Given as goal

abbrev pub invariant-loop-name : goal.invariant-loop-name
invariant-loop-name g l = record {
  rest : walk_end l.image l.dir (drop l.name-index l.path.through.items) ≡ walk_end l.image 0 l.path.through.items;
  within : l.dir < 16;
}
