use Rattle.std.proofs.Common.{take}
use Rattle.crash_model.specs.Promises.{breaks_line}
use Rattle.fault_deciding.specs.Asked.{family_of}
use Rattle.fault_deciding.specs.OfSets.{IsKnownOfSets}
use Rattle.fault_deciding.proofs.promise.breaks_line.Given as goal

abbrev pub invariant-loop-promise : goal.invariant-loop-promise
invariant-loop-promise g l = IsKnownOfSets (family_of l.chains l.family)
    (λ set d. breaks_line (take l.promise-index l.promises) set d l.line) l.answer
