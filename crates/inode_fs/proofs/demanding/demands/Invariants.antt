use Rattle.std.proofs.Common.{take}
use Rattle.inode_fs.specs.Demanding.{IsSoFar}
use Rattle.inode_fs.proofs.demanding.demands.Given as goal

abbrev pub invariant-loop-step : goal.invariant-loop-step
invariant-loop-step g l = IsSoFar l.is_strict l.is_atomic l.base (take l.step-index l.steps) l.demanding
