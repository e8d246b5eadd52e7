use Rattle.std.proofs.Common.{◌≡◌, ◌≤◌, ◌⊎◌, bit_or, length}
use Rattle.crash_model.specs.Promises.{ids_between}
use Rattle.kept_promises.proofs.lasting.with_ids_between.Given as goal

abbrev pub invariant-loop-id : goal.invariant-loop-id
invariant-loop-id g l = record {
  more : l.more ≡ bit_or l.set (ids_between l.known l.id);
  least : l.known ≤ l.id;
  most : (l.id ≤ length l.graph) ⊎ (l.id ≡ l.known);
}
