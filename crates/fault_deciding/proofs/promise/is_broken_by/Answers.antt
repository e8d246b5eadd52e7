use Rattle.std.proofs.Common.{subst}
use Rattle.crash_model.specs.Promises.{is_broken}
use Rattle.known_bytes.specs.Family.{Family}
use Rattle.fault_deciding.specs.OfSets.{IsKnownOfSets}
use Rattle.fault_deciding.proofs.promise.is_broken_by.Goals as goal

pub returns : goal.returns
returns g c = subst (λ (f : Family). IsKnownOfSets f (is_broken c.args.promise.now) c.is_broken.result) c.new.ensures
    c.is_broken.ensures
