use Rattle.std.proofs.Common.{◌≡◌, ◌≤◌, length}
use Rattle.order_modules.specs.Transactions.{targets_of}
use Rattle.order_modules.proofs.transactions.touched.Given as goal

abbrev pub invariant-loop-block : goal.invariant-loop-block
invariant-loop-block l = record {
  targets : l.targets.items ≡ targets_of l.module l.block l.changes;
  few : length l.targets.items ≤ l.block;
}
