use Rattle.std.proofs.Common.{◌≡◌, false, take}
use Rattle.crash_model.specs.Promises.{is_spared}
use Rattle.known_bytes.specs.Reading.{InEachDisk}
use Rattle.fault_deciding.proofs.promise.is_spared.Given as goal

abbrev pub invariant-loop-spare : goal.invariant-loop-spare
invariant-loop-spare g l = InEachDisk l.disk (λ d. is_spared (take l.spare-index l.spares) d ≡ false)
