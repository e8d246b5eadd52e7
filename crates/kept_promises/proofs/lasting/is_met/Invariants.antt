use Rattle.std.proofs.Common.{◌≡◌, drop}
use Rattle.std.specs.List.{list_any}
use Rattle.crash_model.specs.Patches.{places_of}
use Rattle.crash_model.specs.Waiting.{meets_range}
use Rattle.kept_promises.proofs.lasting.is_met.Given as goal

abbrev pub invariant-loop-id : goal.invariant-loop-id
invariant-loop-id g l =
    list_any (λ place. list_any (meets_range place) l.ranges) (drop l.id (places_of l.graph))
    ≡ list_any (λ place. list_any (meets_range place) l.ranges) (drop l.known (places_of l.graph))
