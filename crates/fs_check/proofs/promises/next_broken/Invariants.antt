use Rattle.std.proofs.Common.{take}
use Rattle.fs_check.specs.Broken.{line_behind, IsNextBroken}
use Rattle.fs_check.proofs.promises.next_broken.Given as goal

abbrev pub invariant-loop-promise : goal.invariant-loop-promise
invariant-loop-promise g l = IsNextBroken (take l.promise-index l.promises) l.set l.image (line_behind l.last) l.next
