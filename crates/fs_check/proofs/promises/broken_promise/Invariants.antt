use Rattle.std.proofs.Common.{◌≡◌, ◌==◌, ◌&&◌, None, take}
use Rattle.std.specs.List.{find}
use Rattle.crash_model.specs.Promises.{is_broken}
use Rattle.fs_check.proofs.promises.broken_promise.Given as goal

abbrev pub invariant-loop-promise : goal.invariant-loop-promise
invariant-loop-promise g l =
    find (λ p. p.line == l.line && is_broken p l.set l.image) (take l.promise-index l.promises) ≡ None
