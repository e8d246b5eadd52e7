use Rattle.std.proofs.Common.{◌≡◌, take}
use Rattle.std.specs.Prelude.{All}
use Rattle.question_model.specs.Workloads.{IsOfPool, places_of, keeps_of}
use Rattle.pool_judging.proofs.copying.pool_of.Given as goal

abbrev pub invariant-loop-step : goal.invariant-loop-step
invariant-loop-step g l =
    All IsOfPool (take l.step-index l.steps) × (l.places.items ≡ places_of (take l.step-index l.steps))
    × (l.keeps.items ≡ keeps_of (take l.step-index l.steps))
