use Rattle.std.proofs.Common.{◌≡◌, Some}
use Rattle.std.specs.Prelude.{slice_get}
use Rattle.crash_model.specs.Lists.{some_below}
use Rattle.crash_model.specs.Trace.{Emitted}
use Rattle.traced_patches.specs.Traced.{dependency_at}
use Rattle.report.proofs.explaining.dependencies.Given as goal

abbrev pub invariant-loop-earlier : goal.invariant-loop-earlier
invariant-loop-earlier g l =
    (q : Emitted) → slice_get l.traced.emitted l.later ≡ Some q
    → l.after.items ≡ some_below l.earlier (dependency_at l.traced q)
