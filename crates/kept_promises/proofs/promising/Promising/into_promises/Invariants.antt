use Rattle.std.proofs.Common.{◌≡◌, ◌++◌, map}
use Rattle.crash_model.specs.Tracing.{Tracing}
use Rattle.promise_steps.specs.Underway.{all_ended}
use Rattle.kept_promises.specs.Watched.{IsPlaceOf, under_of}
use Rattle.kept_promises.proofs.promising.Promising.into_promises.Given as goal

abbrev pub invariant-loop-one : goal.invariant-loop-one
invariant-loop-one g l = record {
  parts : l.yielded ++ l.one-iterator.rest.items ≡ l.fn.self.underway.items;
  made : (s : Tracing) → IsPlaceOf l.last s → l.promises.items ≡ all_ended s (map under_of l.yielded);
}
