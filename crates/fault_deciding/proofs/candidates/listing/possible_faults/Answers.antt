use Rattle.std.proofs.Common.{◌≡◌, ℕ, sym, ap, ◌∙◌}
use Rattle.std.specs.Prelude.{Option, Some, None}
use Rattle.crash_model.specs.Checker.{counted_among}
use Rattle.crash_model.specs.Patches.{image_of}
use Rattle.crash_model.specs.Replay.{image_after_replay}
use Rattle.fault_deciding.proofs.AllFaults.{counted_listed}
use Rattle.fault_deciding.proofs.candidates.listing.possible_faults.Goals as goal

pub returns-in-Some-clause-all : goal.returns-in-Some-clause-all
returns-in-Some-clause-all g c set m =
    let f = c.args.bytes.now in
    let demands = c.args.demands.now in
    let faults = c.in_ok-faults.faults.items in
    let is : demands.counted ≡ Some c.in-Some.counted = sym c.counted.ensures ∙ c.in-Some.is in
    counted_listed demands faults c.keep_counted.new.faults.items set
    (image_after_replay (image_of f.base f.patches set))
    (c.keep_counted.ensures ∙ ap (λ (o : Option ℕ). counted_among o faults) (sym is))
    (c.in_ok-faults.ensures.all set m)

pub returns-in-None-clause-all : goal.returns-in-None-clause-all
returns-in-None-clause-all g c set m =
    let f = c.args.bytes.now in
    let demands = c.args.demands.now in
    let faults = c.in_ok-faults.faults.items in
    let is : demands.counted ≡ None = sym c.counted.ensures ∙ c.in-None.is in
    counted_listed demands faults faults set (image_after_replay (image_of f.base f.patches set))
    (ap (λ (o : Option ℕ). counted_among o faults) (sym is)) (c.in_ok-faults.ensures.all set m)
