-- Why a script is refused of whose lines that wait it is asked which are enough.
use Rattle.std.specs.Prelude.{◌≡◌, List, Some, slice_get}
use Rattle.crash_model.specs.Waiting.{Wait}
use Rattle.crash_model.specs.declared.refusals.RunFault.{RunFault}
use Rattle.crash_model.specs.declared.refusals.RunFault.TheVariants.{TooManySyncs}
use Rattle.question_model.specs.declared.question.TheConstants.{MAX_SYNCS}

-- there are more lines than can be asked about, and the fault has the first that is too many
abbrev pub HasTooManyWaits : List Wait → RunFault → Type 0
HasTooManyWaits waits fault =
    (wait : Wait) × (slice_get waits MAX_SYNCS ≡ Some wait) × (fault ≡ TooManySyncs wait.line)
