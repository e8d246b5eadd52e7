use Rattle.std.proofs.Common.{◌≡◌, length}
use Rattle.crash_model.specs.declared.fault_kind.TheConstants.{KINDS}
use Rattle.pool_judging.proofs.Least.{AreLeastBelow}
use Rattle.pool_judging.proofs.firsts.firsts.Given as goal

abbrev pub invariant-loop-place : goal.invariant-loop-place
invariant-loop-place l = record {
  long : length l.first_sets ≡ KINDS;
  so_far : AreLeastBelow l.faults l.place l.first_sets;
}
