use Rattle.std.proofs.Common.{◌≡◌, ◌++◌, length, map, Ok}
use Rattle.std.specs.List.{All}
use Rattle.crash_model.specs.Trace.{step as step_of}
use Rattle.crash_model.specs.Tracing.{Tracing}
use Rattle.crash_model.specs.declared.modules.Module.{Module}
use Rattle.promise_steps.specs.Underway.{advanced}
use Rattle.kept_promises.specs.Watched.{IsPlaceOf, IsAt, under_of}
use Rattle.kept_promises.proofs.promising.Promising.step.Given as goal

abbrev pub invariant-loop-one : goal.invariant-loop-one
invariant-loop-one g l = record {
  parts : l.yielded ++ l.one-iterator.rest.items ≡ l.fn.self.underway.items;
  made : (kind : Module) (s next : Tracing) → All (λ u. IsAt u s) l.yielded → IsPlaceOf l.after next
      → l.known ≡ length s.emitted → step_of kind s l.step.line l.step.act ≡ Ok next
      → map under_of l.underway.items ≡ map (λ u. advanced u s l.step.act next) (map under_of l.yielded);
  at : (next : Tracing) → IsPlaceOf l.after next → All (λ u. IsAt u next) l.underway.items;
}
